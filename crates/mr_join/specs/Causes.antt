-- Why the proof of a join was not written, and why its audit came to no finding.
use Rattle.std.specs.Prelude.{◌≡◌, ◌≢◌, ◌⊎◌, ℕ, ◌≤◌, ⊤, Option, Some, Result, IfErr, OnOk}
use Rattle.mr_outside.specs.Faults.{Rose}
use Rattle.mr_outside.specs.State.{Sunk}
use Rattle.mr_tree.specs.Nodes.{MapModel, HasSomeCause}
use Rattle.mr_tree.specs.declared.nodes.NodesErr.{NodesErr}
use Rattle.mr_tree.specs.declared.nodes.NodesErr.TheVariants as nodes
use Rattle.mr_prove.specs.declared.error.ProveErr.{ProveErr}
use Rattle.mr_prove.specs.declared.error.ProveErr.TheVariants as errors
use Rattle.mr_clash.specs.declared.error.AuditErr.{AuditErr}
use Rattle.mr_clash.specs.declared.error.AuditErr.TheVariants as audits

-- what a map stands for, and a count of it, of faults or of fetches, before a call and after it
pub record Watched : Type 0 where
  pub map : MapModel
  pub before : ℕ
  pub after : ℕ

abbrev pub watched : MapModel → (before after : ℕ) → Watched
watched s before after = record { map = s; before = before; after = after }

-- a fetch of the one map or of the other may be refused so, and not for want of memory
abbrev pub EitherRefuses : Watched → Watched → NodesErr → Type 0
EitherRefuses a b e =
    (HasSomeCause a.map a.before a.after e ⊎ HasSomeCause b.map b.before b.after e)
    × (e ≢ nodes.NoMemory)

-- each refusal has its cause: that of a fetch, or of the sink
abbrev pub HasWriteCause : Watched → Watched → (sink_rose : Type 0) → ProveErr → Type 0
HasWriteCause a b sink_rose (errors.Nodes e) = EitherRefuses a b e
HasWriteCause a b sink_rose errors.Sink = sink_rose
HasWriteCause a b sink_rose errors.NoMemory = ⊤

pub record JoinCauses {A : Type 0} (a b : Watched) (from to : Sunk) (result : Result A ProveErr)
    : Type 0 where
  pub cause : IfErr result (HasWriteCause a b (Rose from.faults to.faults))
  pub faults : from.faults ≤ to.faults
  pub still_first : OnOk result (a.after ≡ a.before)
  pub still_second : OnOk result (b.after ≡ b.before)
  pub quiet : OnOk result (to.faults ≡ from.faults)

-- a refusal of the nodes is handed on as the last that a fetch of the one or of the other gave
abbrev pub IsHandedByOne : (first second : Option NodesErr) → ProveErr → Type 0
IsHandedByOne first second (errors.Nodes e) = (first ≡ Some e) ⊎ (second ≡ Some e)
IsHandedByOne first second errors.Sink = ⊤
IsHandedByOne first second errors.NoMemory = ⊤

-- ---- of the audit

abbrev pub HasAuditCause : Watched → Watched → AuditErr → Type 0
HasAuditCause a b (audits.Nodes e) = EitherRefuses a b e
HasAuditCause a b audits.NoMemory = ⊤

pub record JoinAuditCauses {A : Type 0} (a b : Watched) (result : Result A AuditErr) : Type 0 where
  pub cause : IfErr result (HasAuditCause a b)
  pub first : a.before ≤ a.after
  pub second : b.before ≤ b.after
  pub still_first : OnOk result (a.after ≡ a.before)
  pub still_second : OnOk result (b.after ≡ b.before)

abbrev pub IsAuditHandedByOne : (first second : Option NodesErr) → AuditErr → Type 0
IsAuditHandedByOne first second (audits.Nodes e) = (first ≡ Some e) ⊎ (second ≡ Some e)
IsAuditHandedByOne first second audits.NoMemory = ⊤
