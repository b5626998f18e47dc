-- The proofs for many queries on one map.
use Rattle.std.specs.Prelude.{◌≡◌, ⊤, ℕ, List, map, All, Option, Some}
use Rattle.mr_record.specs.declared.version.Version.{Version}
use Rattle.mr_tree.specs.Digest.{Scheme, by}
use Rattle.mr_tree.specs.Snapshot.{tree_of}
use Rattle.mr_tree.specs.declared.nodes.NodesErr.{NodesErr}
use Rattle.mr_tree.specs.declared.nodes.NodesErr.TheVariants as errors
use Rattle.mr_tree.specs.declared.nodes.Top.{Top}
use Rattle.mr_tree.specs.declared.stored.Stored.{Stored}
use Rattle.mr_tree.specs.declared.tree.Tree.{Tree}
use Rattle.mr_query.specs.declared.query.Query.{Query}
use Rattle.mr_proof.specs.Tight.{MayCome, question}
use Rattle.mr_proof.specs.Honest.{proof}
use Rattle.mr_bundle.specs.Bundle.{bundle_of}

-- a map of this version has a proof for each of the queries: for one that names a mask only a map
-- of the second version has
abbrev pub HasProofs : Version → List Query → Type 0
HasProofs v queries = All (λ q. MayCome (question q) v) queries

-- the honest proofs for some queries on a map that has them, in the order of the queries
abbrev pub proofs : Scheme → Tree → (batch : ℕ) → List Query → List (List ℕ)
proofs s t batch queries = map (proof s t batch) queries

-- their bundle
unfoldable pub bundle : Scheme → Tree → (batch : ℕ) → List Query → List ℕ
bundle s t batch queries = bundle_of (proofs s t batch queries)

-- the honest proof on the map whose nodes and head these are
abbrev pub proof_in : (List ℕ → List ℕ) → List Stored → Top → Query → List ℕ
proof_in hash nodes top q = proof (by top.version hash) (tree_of nodes top) top.batch q

-- a refusal is answered as it was given
abbrev pub as_given : NodesErr → NodesErr
as_given e = e

-- what is answered is the last that a fetch refused, unless memory ran out
abbrev pub IsLastRefusal : (last : Option NodesErr) → NodesErr → Type 0
IsLastRefusal last errors.NoMemory = ⊤
IsLastRefusal last e = last ≡ Some e
