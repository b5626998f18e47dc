use Rattle.mr_check.proofs.Stepping.{inner_opened}
use Rattle.mr_check.proofs.inner.opened_inner.Goals as goal

pub returns-clause-steps : goal.returns-clause-steps
returns-clause-steps g c = λ given a.
    inner_opened g.H.Hashes.of g.H.Hashes.holds (g.A.AsQuestion.question c.args.q.now) c.args.m.now c.push.new.stack
    c.inner.result
    c.args.below c.args.entries given a c.requires.some c.inner.ensures c.push.ensures.items
