use Rattle.std.proofs.Common.{inl, rules}
use Rattle.mr_journal.specs.Format.{carried}
use Rattle.mr_journal.specs.States.{IsShutAt, IsArmedFor, IsSettledAt, EitherOf}
use Rattle.mr_journal.specs.private.Progress.{IsClearedAt, IsFilledBy, IsArmedBy}
use Rattle.mr_journal.proofs.Running.{leads_then, leads_refused}
use Rattle.std.proofs.lemmas.Result.{on_ok_weaker}
use Rattle.mr_journal.proofs.Leaving.{opened_after}
use Rattle.mr_journal.proofs.Quiet.{causes_then}
use Rattle.mr_journal.proofs.applying.arm.Goals as goal

pub returns-in_err-prepare_gate-clause-armed : goal.returns-in_err-prepare_gate-clause-armed
returns-in_err-prepare_gate-clause-armed g c map fit =
    let contents = (g.D.Disk.state c.args.disk.now).contents in
    let N = carried c.args.body.now map in
    leads_refused _ _ _ _ _ c.from_residual.result (IsSettledAt map contents) (IsShutAt map) (IsClearedAt map)
    (EitherOf (IsShutAt map) (IsArmedFor N)) (IsArmedBy c.args.body.now N)
    (search rules) (c.in_err-prepare_gate.ensures.shut map) (λ x q. inl q)

pub returns-in_err-fill-clause-armed : goal.returns-in_err-fill-clause-armed
returns-in_err-fill-clause-armed g c map fit =
    let contents = (g.D.Disk.state c.args.disk.now).contents in
    let N = carried c.args.body.now map in
    leads_refused _ _ _ _ c.fill.result c.from_residual-in_err-fill.result (IsSettledAt map contents) (IsShutAt map)
    (IsFilledBy c.args.body.now map) (EitherOf (IsShutAt map) (IsArmedFor N)) (IsArmedBy c.args.body.now N)
    (search rules)
    (leads_then _ _ _ _ _ _ c.in_ok-prepare_gate.field-0 c.fill.result (IsSettledAt map contents) (IsShutAt map)
    (IsClearedAt map) (IsShutAt map) (IsFilledBy c.args.body.now map) (IsShutAt map)
    (c.in_ok-prepare_gate.ensures.shut map) (c.fill.ensures.filled map) (λ x q. q) (λ x q. q))
    (λ x q. inl q)

pub returns-clause-armed : goal.returns-clause-armed
returns-clause-armed g c map fit =
    let contents = (g.D.Disk.state c.args.disk.now).contents in
    let N = carried c.args.body.now map in
    leads_then _ _ _ _ _ _ c.in_ok-prepare_gate.field-0 c.open_gate.result (IsSettledAt map contents) (IsShutAt map)
    (IsClearedAt map) (EitherOf (IsShutAt map) (IsArmedFor N)) (IsArmedBy c.args.body.now N)
    (EitherOf (IsShutAt map) (IsArmedFor N))
    (c.in_ok-prepare_gate.ensures.shut map)
    (leads_then _ _ _ _ _ _ c.in_ok-fill.field-0 c.open_gate.result (IsClearedAt map) (IsShutAt map)
    (IsFilledBy c.args.body.now map) (EitherOf (IsShutAt map) (IsArmedFor N)) (IsArmedBy c.args.body.now N)
    (EitherOf (IsShutAt map) (IsArmedFor N))
    (c.in_ok-fill.ensures.filled map) (c.open_gate.ensures.armed c.args.body.now map fit) (λ x q. inl q) (λ x q. q))
    (λ x q. inl q) (λ x q. q)

pub returns-clause-left : goal.returns-clause-left
returns-clause-left g c some =
    on_ok_weaker c.open_gate.result
    (λ opened. opened_after c.args.body.now (g.D.Disk.state c.args.disk.now).contents _ _ _ some
    c.in_ok-prepare_gate.ensures.behind c.in_ok-prepare_gate.ensures.gate c.in_ok-fill.ensures.written opened)
    c.open_gate.ensures.written

pub returns-clause-causes : goal.returns-clause-causes
returns-clause-causes g c =
    causes_then _ _ _ c.in_ok-prepare_gate.field-0 c.open_gate.result c.in_ok-prepare_gate.ensures.causes
    (causes_then _ _ _ c.in_ok-fill.field-0 c.open_gate.result c.in_ok-fill.ensures.causes
    c.open_gate.ensures.causes)
