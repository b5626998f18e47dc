-- Why a proof was not written.
use Rattle.std.specs.Prelude.{◌≡◌, ◌≢◌, ℕ, ◌≤◌, ⊤, Option, Some, Result, IfErr, OnOk}
use Rattle.mr_outside.specs.Faults.{Rose}
use Rattle.mr_outside.specs.State.{Sunk}
use Rattle.mr_outside.specs.declared.sink.SinkErr.{SinkErr}
use Rattle.mr_outside.specs.declared.sink.SinkErr.TheVariants as sink
use Rattle.mr_query.specs.declared.query.Query.{Query}
use Rattle.mr_query.specs.declared.query.Shape.{Shape}
use Rattle.mr_query.specs.declared.query.Shape.TheVariants.{Window, Nearest}
use Rattle.mr_tree.specs.Nodes.{MapModel, HasSomeCause}
use Rattle.mr_tree.specs.declared.nodes.NodesErr.{NodesErr}
use Rattle.mr_tree.specs.declared.nodes.NodesErr.TheVariants as nodes
use Rattle.mr_prove.specs.declared.error.ProveErr.{ProveErr}
use Rattle.mr_prove.specs.declared.error.ProveErr.TheVariants as errors

-- what is answered where a node was not fetched
abbrev pub of_nodes : NodesErr → ProveErr
of_nodes nodes.NoMemory = errors.NoMemory
of_nodes e = errors.Nodes e

-- what is answered where the sink refused
abbrev pub of_sink : SinkErr → ProveErr
of_sink sink.Fault = errors.Sink
of_sink sink.NoMemory = errors.NoMemory

-- Each refusal has its cause, between these counts of faults of the nodes and by whether that of
-- the sink rose: that of a fetch, which is never handed on as one of memory, or of the sink.
abbrev pub HasProveCause : MapModel → (before after : ℕ) → (sink_rose : Type 0) → ProveErr → Type 0
HasProveCause s before after sink_rose (errors.Nodes e) = HasSomeCause s before after e
    × (e ≢ nodes.NoMemory)
HasProveCause s before after sink_rose errors.Sink = sink_rose
HasProveCause s before after sink_rose errors.NoMemory = ⊤

-- between these counts of faults of the nodes and these states of the sink
pub record ProveCauses {A : Type 0} (s : MapModel) (before after : ℕ) (from to : Sunk)
    (result : Result A ProveErr) : Type 0 where
  pub cause : IfErr result (HasProveCause s before after (Rose from.faults to.faults))
  pub faults : from.faults ≤ to.faults
  pub still : OnOk result (after ≡ before)
  pub quiet : OnOk result (to.faults ≡ from.faults)

-- a refusal of the nodes is handed on as the last that a fetch gave
abbrev pub IsHandedOn : (last : Option NodesErr) → ProveErr → Type 0
IsHandedOn last (errors.Nodes e) = last ≡ Some e
IsHandedOn last errors.Sink = ⊤
IsHandedOn last errors.NoMemory = ⊤

-- ---- the number of fetches

-- how often each node that the proof opens is fetched at most: once, to be written; and for nearest
-- records once more, to find their distance
abbrev pub rounds_for : Shape → ℕ
rounds_for (Window w) = 1
rounds_for (Nearest p k) = 2

abbrev pub rounds : Query → ℕ
rounds q = rounds_for q.shape
