use Rattle.mr_check.proofs.Judging.{end_fault}
use Rattle.mr_check.proofs.ending.verdict_of.Goals as goal

pub returns-in-Some : goal.returns-in-Some
returns-in-Some g c = λ bytes may b.
    end_fault g.H.Hashes.of g.H.Hashes.holds c.args.root.now (g.A.AsQuestion.question c.args.q.now) c.args.r.now bytes
    c.args.r.now.fault
    c.in-Some.fault c.in-Some.is b
