use Rattle.std.proofs.Common.{rules}
use Rattle.mr_journal.specs.States.{IsShutAt}
use Rattle.mr_journal.specs.private.Progress.{IsClearedAt, IsInvalidAt}
use Rattle.mr_journal.proofs.Gating.{invalid_open, HasShutGate}
use Rattle.mr_journal.proofs.Running.{leads_from, leads_then, leads_refused}
use Rattle.mr_journal.proofs.Quiet.{causes_then}
use Rattle.mr_journal.proofs.gate.prepare_byte.Goals as goal

pub returns-then-gate-eq-GATE-clause-shut : goal.returns-then-gate-eq-GATE-clause-shut
returns-then-gate-eq-GATE-clause-shut g c map =
    leads_from _ _ _ _ c.clear_gate.result (HasShutGate map c.args.gate) (IsInvalidAt map) (IsShutAt map)
    (IsClearedAt map)
    (invalid_open map c.args.gate c.if-gate-eq-GATE.true) (c.clear_gate.ensures.shut map)

pub returns-in_err-clear_version-clause-shut : goal.returns-in_err-clear_version-clause-shut
returns-in_err-clear_version-clause-shut g c map =
    leads_refused _ _ _ _ _ c.from_residual.result (HasShutGate map c.args.gate) (IsShutAt map) (IsInvalidAt map)
    (IsShutAt map) (IsClearedAt map)
    (search rules) (c.in_err-clear_version.ensures.shut map c.args.gate c.if-gate-eq-GATE.false) (λ x q. q)

pub returns-clause-shut : goal.returns-clause-shut
returns-clause-shut g c map =
    leads_then _ _ _ _ _ _ c.in_ok-clear_version.field-0 c.clear_gate-2.result (HasShutGate map c.args.gate)
    (IsShutAt map) (IsInvalidAt map) (IsShutAt map) (IsClearedAt map) (IsShutAt map)
    (c.in_ok-clear_version.ensures.shut map c.args.gate c.if-gate-eq-GATE.false) (c.clear_gate-2.ensures.shut map)
    (λ x q. q) (λ x q. q)

pub returns-clause-causes : goal.returns-clause-causes
returns-clause-causes g c =
    causes_then _ _ _ c.in_ok-clear_version.field-0 c.clear_gate-2.result c.in_ok-clear_version.ensures.causes
    c.clear_gate-2.ensures.causes
