-- Why an audit came to no finding.
use Rattle.std.specs.Prelude.{◌≡◌, ◌≢◌, ℕ, ◌≤◌, ⊤, Option, Some, Result, IfErr, OnOk}
use Rattle.mr_tree.specs.Nodes.{MapModel, HasSomeCause}
use Rattle.mr_tree.specs.declared.nodes.NodesErr.{NodesErr}
use Rattle.mr_tree.specs.declared.nodes.NodesErr.TheVariants as nodes
use Rattle.mr_clash.specs.declared.error.AuditErr.{AuditErr}
use Rattle.mr_clash.specs.declared.error.AuditErr.TheVariants as errors

-- what is answered where a node was not fetched
abbrev pub of_nodes : NodesErr → AuditErr
of_nodes nodes.NoMemory = errors.NoMemory
of_nodes e = errors.Nodes e

-- each refusal has its cause: that of a fetch, which is never handed on as one of memory
abbrev pub HasAuditCause : MapModel → (before after : ℕ) → AuditErr → Type 0
HasAuditCause s before after (errors.Nodes e) = HasSomeCause s before after e × (e ≢ nodes.NoMemory)
HasAuditCause s before after errors.NoMemory = ⊤

-- between these counts of faults of the nodes
pub record AuditCauses {A : Type 0} (s : MapModel) (before after : ℕ) (result : Result A AuditErr)
    : Type 0 where
  pub cause : IfErr result (HasAuditCause s before after)
  pub faults : before ≤ after
  pub quiet : OnOk result (after ≡ before)

-- a refusal of the nodes is handed on as the last that a fetch gave
abbrev pub IsHandedOn : Option NodesErr → AuditErr → Type 0
IsHandedOn last (errors.Nodes e) = last ≡ Some e
IsHandedOn last errors.NoMemory = ⊤
