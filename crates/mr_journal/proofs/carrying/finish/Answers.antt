use Rattle.std.proofs.Common.{inr, rules}
use Rattle.mr_journal.specs.States.{IsShutAt, IsArmedFor, IsSettledAt, EitherOf}
use Rattle.mr_journal.specs.private.Progress.{IsArmedBy, IsCarriedBy}
use Rattle.mr_journal.proofs.Running.{leads_then, leads_refused}
use Rattle.mr_journal.proofs.Gating.{armed_for}
use Rattle.mr_journal.proofs.Quiet.{causes_then}
use Rattle.mr_journal.proofs.carrying.finish.Goals as goal

pub returns-in_err-carry_out-clause-shut : goal.returns-in_err-carry_out-clause-shut
returns-in_err-carry_out-clause-shut g c map =
    let body = c.args.body.now in
    leads_refused _ _ _ _ _ c.from_residual.result (IsArmedBy body map) (IsArmedBy body map) (IsCarriedBy body map)
    (EitherOf (IsShutAt map) (IsArmedFor map)) (IsSettledAt map (g.D.Disk.state c.carry_out.new.disk).contents)
    (search rules) (c.in_err-carry_out.ensures.armed map) (λ x q. inr (armed_for body map x q))

pub returns-clause-shut : goal.returns-clause-shut
returns-clause-shut g c map =
    let body = c.args.body.now in
    leads_then _ _ _ _ _ _ c.in_ok-carry_out.field-0 c.close_gate.result (IsArmedBy body map) (IsArmedBy body map)
    (IsCarriedBy body map) (EitherOf (IsShutAt map) (IsArmedFor map))
    (IsSettledAt map (g.D.Disk.state c.close_gate.new.disk).contents) (EitherOf (IsShutAt map) (IsArmedFor map))
    (c.in_ok-carry_out.ensures.armed map) (c.close_gate.ensures.shut body map)
    (λ x q. inr (armed_for body map x q)) (λ x q. q)

pub returns-clause-causes : goal.returns-clause-causes
returns-clause-causes g c =
    causes_then _ _ _ c.in_ok-carry_out.field-0 c.close_gate.result c.in_ok-carry_out.ensures.causes
    c.close_gate.ensures.causes
