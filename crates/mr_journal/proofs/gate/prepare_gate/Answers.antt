use Rattle.std.proofs.Common.{◌≡◌, ℕ, Option, IfSome, subst}
use Rattle.mr_journal.specs.private.Parsed.{first_of}
use Rattle.mr_journal.specs.States.{IsShutAt, IsSettledAt}
use Rattle.mr_journal.specs.private.Progress.{IsClearedAt, IsInvalidAt}
use Rattle.mr_journal.proofs.Gating.{invalid_none, gated_some, HasShutGate}
use Rattle.mr_journal.proofs.Running.{leads_stays}
use Rattle.mr_journal.proofs.Quiet.{causes_then}
use Rattle.mr_journal.proofs.gate.prepare_gate.Goals as goal

pub returns-in-None-clause-shut : goal.returns-in-None-clause-shut
returns-in-None-clause-shut g c map =
    let contents = (g.D.Disk.state c.args.disk.now).contents in
    let gate = subst (λ (o : Option ℕ). IfSome contents (λ k. o ≡ first_of k.journal)) c.in-None.is
    c.in_ok-gate_of.ensures.gate in
    leads_stays _ _ _ _ _ _ c.clear_gate.result (IsSettledAt map contents) (IsInvalidAt map) (IsShutAt map)
    (IsClearedAt map)
    (g.met.D.Disk.earlier c.gate_of.new.disk) c.gate_of.ensures.moves (invalid_none map contents gate) (λ x p. p.shut)
    (c.clear_gate.ensures.shut map)

pub returns-in-Some-clause-shut : goal.returns-in-Some-clause-shut
returns-in-Some-clause-shut g c map =
    let contents = (g.D.Disk.state c.args.disk.now).contents in
    let gate = subst (λ (o : Option ℕ). IfSome contents (λ k. o ≡ first_of k.journal)) c.in-Some.is
    c.in_ok-gate_of.ensures.gate in
    leads_stays _ _ _ _ _ _ c.prepare_byte.result (IsSettledAt map contents) (HasShutGate map c.in-Some.gate)
    (IsShutAt map) (IsClearedAt map)
    (g.met.D.Disk.earlier c.gate_of.new.disk) c.gate_of.ensures.moves (gated_some map contents c.in-Some.gate gate)
    (λ x p. p.shut) (c.prepare_byte.ensures.shut map)

pub returns-in-None-clause-causes : goal.returns-in-None-clause-causes
returns-in-None-clause-causes g c =
    causes_then _ _ _ c.in_ok-gate_of.field-0 c.clear_gate.result c.in_ok-gate_of.ensures.causes
    c.clear_gate.ensures.causes

pub returns-in-Some-clause-causes : goal.returns-in-Some-clause-causes
returns-in-Some-clause-causes g c =
    causes_then _ _ _ c.in_ok-gate_of.field-0 c.prepare_byte.result c.in_ok-gate_of.ensures.causes
    c.prepare_byte.ensures.causes
