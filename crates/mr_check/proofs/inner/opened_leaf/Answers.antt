use Rattle.mr_check.proofs.Stepping.{leaf_opened}
use Rattle.mr_check.proofs.inner.opened_leaf.Goals as goal

pub returns-clause-steps : goal.returns-clause-steps
returns-clause-steps g c = λ given a.
    leaf_opened g.H.Hashes.of g.H.Hashes.holds (g.A.AsQuestion.question c.args.q.now) c.args.m.now c.leaf.result
    c.args.entries given a
    c.requires.some c.leaf.ensures
