use Rattle.std.proofs.Common.{◌≡◌, drop}
use Rattle.mr_check.specs.private.Differing.{rise_after}
use Rattle.mr_check.proofs.arranging.rise_after.Given as goal

-- what is left decides
abbrev pub invariant-loop-number : goal.invariant-loop-number
invariant-loop-number l = rise_after l.fn.last l.fn.numbers ≡ rise_after l.last (drop l.number-index l.numbers)
