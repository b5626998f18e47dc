use Rattle.std.proofs.Common.{◌≡◌, ◌+◌, ◌-◌, ◌<◌, length}
use Rattle.std.specs.List.{fold, range_with_len}
use Rattle.mr_split.specs.Best.{better}
use Rattle.mr_split.specs.Seeds.{waste, wastes_more, pairs_of}
use Rattle.mr_split.proofs.seeds.best_partner.Given as goal

-- the best so far and the pairs that are left have the best of all
abbrev pub invariant-loop-second : goal.invariant-loop-second
invariant-loop-second l = record {
  ordered : l.best.first < l.best.second;
  inside : l.best.second < length l.list;
  most : l.most ≡ waste l.list l.best;
  rest : fold (better (wastes_more l.list)) l.best
      (pairs_of l.first (range_with_len l.second (length l.list - l.second)))
      ≡ fold (better (wastes_more l.list)) l.initial.best
      (pairs_of l.first (range_with_len (l.first + 1) (length l.list - (l.first + 1))));
}
