use Rattle.std.proofs.Common.{◌≡◌, ◌++◌, drop, take}
use Rattle.mr_split.specs.Split.{filled}
use Rattle.mr_split.proofs.sharing.fill.Given as goal

abbrev pub invariant-loop-mark : goal.invariant-loop-mark
invariant-loop-mark l = take l.mark-index l.marks ++ filled l.group (drop l.mark-index l.marks) ≡ filled l.group
    l.initial.marks
