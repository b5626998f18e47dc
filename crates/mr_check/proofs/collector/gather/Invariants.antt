use Rattle.std.proofs.Common.{◌-◌, length}
use Rattle.mr_check.specs.private.Pieces.{TookSoFar}
use Rattle.mr_check.proofs.collector.gather.Given as goal

abbrev pub invariant-loop-taken : goal.invariant-loop-taken
invariant-loop-taken g l =
    TookSoFar g.H.Hashes.of g.H.Hashes.holds (g.A.AsQuestion.question l.q) l.initial.verifier l.verifier l.piece l.at
    l.initial.kept.items l.kept.items

abbrev pub decreases-loop-taken : goal.decreases-loop-taken
decreases-loop-taken g l = length l.piece - l.at
