use Rattle.std.proofs.Common.{◌≡◌, take, ◌-◌, ◌^◌}
use Rattle.std.specs.Prelude.{sum, min}
use Rattle.mr_clash.specs.private.Steps.{counts_of}
use Rattle.mr_clash.proofs.summary.tally.Given as goal

abbrev pub invariant-loop-child : goal.invariant-loop-child
invariant-loop-child l = l.all ≡ min (sum (counts_of (take l.child-index l.children))) (2 ^ 64 - 1)
