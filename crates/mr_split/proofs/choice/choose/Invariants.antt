use Rattle.std.proofs.Common.{◌≡◌, ◌-◌, ◌<◌, length}
use Rattle.std.specs.List.{fold, range_with_len}
use Rattle.mr_split.specs.Best.{better}
use Rattle.mr_split.specs.Choice.{is_fitter_at}
use Rattle.mr_split.proofs.choice.choose.Given as goal

-- the best so far and the positions that are left have the best of all
abbrev pub invariant-loop-i : goal.invariant-loop-i
invariant-loop-i l = record {
  within : l.at < length l.list;
  rest : fold (better (is_fitter_at l.list l.new)) l.at (range_with_len l.i (length l.list - l.i))
      ≡ fold (better (is_fitter_at l.list l.new)) 0 (range_with_len 1 (length l.list - 1));
}
