use Rattle.mr_check.proofs.Stepping.{payload_on}
use Rattle.mr_check.proofs.leaf.sized.Goals as goal

pub returns-then-length-gt0-clause-steps : goal.returns-then-length-gt0-clause-steps
returns-then-length-gt0-clause-steps g c = λ given a.
    payload_on g.H.Hashes.of g.H.Hashes.holds (g.A.AsQuestion.question c.args.q.now) c.args.m.now c.args.number
    c.args.rect.now c.args.layer c.args.length
    given a
    c.if-length-gt0.true
