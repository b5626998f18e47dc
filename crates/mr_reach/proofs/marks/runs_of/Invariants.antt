use Rattle.std.proofs.Common.{length}
use Rattle.mr_reach.proofs.Bits.{RunsSome}
use Rattle.mr_reach.proofs.marks.runs_of.Given as goal

abbrev pub invariant-loop-rest : goal.invariant-loop-rest
invariant-loop-rest l = RunsSome l.marks l.rest l.before l.runs.items

abbrev pub decreases-loop-rest : goal.decreases-loop-rest
decreases-loop-rest l = length l.rest
