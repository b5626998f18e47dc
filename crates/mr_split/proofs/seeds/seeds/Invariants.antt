use Rattle.std.proofs.Common.{◌≡◌, ◌-◌, ◌<◌, length}
use Rattle.std.specs.List.{fold, range_with_len}
use Rattle.mr_split.specs.Best.{better}
use Rattle.mr_split.specs.Seeds.{wastes_more, pairs, first_pair}
use Rattle.mr_split.proofs.seeds.seeds.Given as goal

abbrev pub invariant-loop-first : goal.invariant-loop-first
invariant-loop-first l = record {
  ordered : l.best.first < l.best.second;
  inside : l.best.second < length l.list;
  rest : fold (better (wastes_more l.list)) l.best (pairs (range_with_len l.first (length l.list - l.first)))
      ≡ fold (better (wastes_more l.list)) first_pair (pairs (range_with_len 0 (length l.list)));
}
