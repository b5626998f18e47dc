use Rattle.mr_check.specs.private.Machine.{next_at}
use Rattle.mr_check.proofs.reader.behind_field.Goals as goal

pub returns-clause-behind : goal.returns-clause-behind
returns-clause-behind g c = λ given a whole is.
    c.behind.ensures.behind (g.A.AsQuestion.question c.args.q.now) given
    (next_at (g.A.AsQuestion.question c.args.q.now).way c.args.r.now.machine.head
    c.args.r.now.machine.leaf.left a c.args.r.now.machine.stage c.args.field.now)
    (c.step-stepped.ensures.steps given a whole is)
