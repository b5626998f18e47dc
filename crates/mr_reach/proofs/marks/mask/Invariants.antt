use Rattle.std.proofs.Common.{◌≡◌, ◌≤◌, length, drop}
use Rattle.mr_reach.specs.private.Marks.{mask}
use Rattle.mr_reach.proofs.marks.mask.Given as goal

-- those from there on
abbrev pub invariant-loop-at : goal.invariant-loop-at
invariant-loop-at l = record {
  within : l.at ≤ length l.marks;
  is : l.bits ≡ mask (drop l.at l.marks);
}

abbrev pub decreases-loop-at : goal.decreases-loop-at
decreases-loop-at l = l.at
