use Rattle.mr_check.proofs.Judging.{end_short, end_last, some_want}
use Rattle.mr_check.proofs.ending.at_end.Goals as goal

pub returns-in-End : goal.returns-in-End
returns-in-End g c = λ bytes may at.
    end_last g.H.Hashes.of g.H.Hashes.holds c.args.root.now (g.A.AsQuestion.question c.args.q.now) c.args.r.now
    c.in-End.node bytes
    c.at_last.result c.in-End.is
    c.requires.held may c.at_last.ensures at

pub returns-in_default : goal.returns-in_default
returns-in_default g c = λ bytes may at.
    let w = some_want c.args.r.now.machine.head.kind c.args.r.now.machine.stage c.in_default.not-End in
    rw c.fault_at.ensures (end_short g.H.Hashes.of g.H.Hashes.holds c.args.root.now
    (g.A.AsQuestion.question c.args.q.now) c.args.r.now bytes
    w.0 w.1 at)
