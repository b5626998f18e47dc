use Rattle.std.proofs.Common.{◌≡◌, drop}
use Rattle.mr_pack.specs.Repeats.{repeat_after}
use Rattle.mr_pack.proofs.twice.first_repeat.Given as goal

-- it is the first repeat of what is left
abbrev pub invariant-loop-number : goal.invariant-loop-number
invariant-loop-number l = repeat_after l.fn.last l.fn.numbers ≡ repeat_after l.last (drop l.number-index l.numbers)
