use Rattle.std.proofs.Common.{subst}
use Rattle.mr_check.specs.declared.machine.StepResult.{StepResult}
use Rattle.mr_check.specs.private.Machine.{StepsPastField}
use Rattle.mr_check.specs.private.Stops.{cursor_at}
use Rattle.mr_check.proofs.Noting.{noted_stop, noted_handed}
use Rattle.mr_check.proofs.reader.behind.Goals as goal

pub returns-in-Broken-clause-behind : goal.returns-in-Broken-clause-behind
returns-in-Broken-clause-behind g c = λ q given k s.
    let e = subst (λ (z : StepResult). StepsPastField g.H.Hashes.of g.H.Hashes.holds q c.args.r.now.machine given k z)
    c.in-Broken.is s in
    let place = cursor_at c.args.r.now.at c.args.last in
    rw c.fail.ensures.value (noted_handed k place c.in-Broken.rule e, noted_stop k place c.in-Broken.rule e)

pub returns-in-On-clause-behind : goal.returns-in-On-clause-behind
returns-in-On-clause-behind g c = λ q given k s.
    let e = subst (λ (z : StepResult). StepsPastField g.H.Hashes.of g.H.Hashes.holds q c.args.r.now.machine given k z)
    c.in-On.is s
    in
    c.goes_on.ensures.behind q given k c.args.last e.0 e.1

pub returns-in-Found-clause-behind : goal.returns-in-Found-clause-behind
returns-in-Found-clause-behind g c = λ q given k s.
    let e = subst (λ (z : StepResult). StepsPastField g.H.Hashes.of g.H.Hashes.holds q c.args.r.now.machine given k z)
    c.in-Found.is
    s in
    c.hands_out.ensures.behind q given k c.args.last e.0 e.1
