-- What the audit of a proof finds.
use Rattle.std.specs.Prelude.{◌≡◌, ◌↔◌, ℕ, ◌+◌, ◌≤◌, List, Option, Some, None, Result, Ok, Err, ⊤}
use Rattle.mr_record.specs.declared.record.Record.{Record}
use Rattle.mr_tree.specs.Tree.{records}
use Rattle.mr_tree.specs.Digest.{Scheme, root, root_preimage}
use Rattle.mr_tree.specs.Nodes.{MapModel, IsTop, root_entry}
use Rattle.mr_tree.specs.declared.nodes.Top.{Top}
use Rattle.mr_tree.specs.declared.tree.Tree.{Tree}
use Rattle.mr_query.specs.Scan.{scan}
use Rattle.mr_query.specs.declared.query.Query.{Query}
use Rattle.mr_proof.specs.declared.rule.Fault.{Fault}
use Rattle.mr_proof.specs.Honest.{IsProof, opened_of}
use Rattle.mr_proof.specs.Spelling.{Parsed}
use Rattle.mr_proof.specs.Reading.{verdict, pair_in}
use Rattle.mr_proof.specs.Clash.{Pair, clash, IsCollision}
use Rattle.mr_clash.specs.declared.finding.Finding.{Finding}
use Rattle.mr_clash.specs.declared.finding.Finding.TheVariants as findings

-- of bytes that are accepted with this answer: the pair, where there is one
abbrev pub finding_by : List Record → Option Pair → Finding
finding_by answer None = findings.Sound answer
finding_by answer (Some p) = findings.Collision p.owned p.shown

-- by the verdict and the pair
abbrev pub finding_of : Result (List Record) Fault → Option Pair → Finding
finding_of (Err f) pair = findings.Refused f
finding_of (Ok answer) pair = finding_by answer pair

-- of the map with this tree at this batch, a query, and bytes that are offered as a proof
abbrev pub found : Scheme → Tree → (batch : ℕ) → Query → List ℕ → Finding
found s t batch q bytes =
    finding_of (verdict s.of (root s t batch) q bytes) (clash s t batch bytes)

-- it is said to be the honest proof, with this answer
abbrev pub IsSound : Finding → Type 0
IsSound (findings.Sound answer) = ⊤
IsSound _ = ⊥

-- just the honest proof is found to be sound, and its answer is the scan of the map's records
abbrev pub FindsHonest : Scheme → Tree → (batch : ℕ) → Query → List ℕ → Finding → Type 0
FindsHonest s t batch q bytes finding =
    (IsSound finding ↔ IsProof s t batch q bytes)
    × ((answer : List Record) → finding ≡ findings.Sound answer → answer ≡ scan (records t) q)

-- two byte strings that are shown differ and have one hash
abbrev pub ShowsCollision : (List ℕ → List ℕ) → Finding → Type 0
ShowsCollision hash (findings.Collision owned shown) =
    IsCollision hash (record { owned = owned; shown = shown })
ShowsCollision hash _ = ⊤

-- ---- told or not

-- the string that the root digest of a map is of, by what that says of itself
abbrev pub root_at : Top → List ℕ
root_at top = root_preimage top.version top.batch top.count (root_entry top.root)

-- by the verdict of the bytes against the root digest of what a map that stands so says of itself,
-- which is this: what is refused has its fault, what is sound its answer, and a pair is shown where
-- it accepts
abbrev pub FindsFor : (List ℕ → List ℕ) → MapModel → Top → Query → List ℕ → Finding → Type 0
FindsFor hash s top q bytes finding = IsTop hash s top × (pair : Option Pair)
    × (finding ≡ finding_of (verdict hash (hash (root_at top)) q bytes) pair)

-- ---- how many nodes are fetched

abbrev pub opened_said : Option Parsed → ℕ
opened_said None = 0
opened_said (Some x) = opened_of x.part

-- the number of nodes that the cut opens that the bytes spell; where they spell none, there is none
abbrev pub opened_in : List ℕ → ℕ
opened_in bytes = opened_said (pair_in bytes)

-- of bytes that are accepted; those that are refused open none
abbrev pub opened_by : Result (List Record) Fault → List ℕ → ℕ
opened_by (Err f) bytes = 0
opened_by (Ok answer) bytes = opened_in bytes

-- of bytes that are accepted against the root of the map with this tree at this batch
abbrev pub opened_accepted : Scheme → Tree → (batch : ℕ) → Query → List ℕ → ℕ
opened_accepted s t batch q bytes = opened_by (verdict s.of (root s t batch) q bytes) bytes

-- told or not, between these counts: by the verdict against the root digest of what a map that
-- stands so says of itself, which is this
abbrev pub FetchesFew : (List ℕ → List ℕ) → MapModel → Top → Query → List ℕ → (before after : ℕ)
    → Type 0
FetchesFew hash s top q bytes before after = IsTop hash s top
    × (after ≤ before + opened_by (verdict hash (hash (root_at top)) q bytes) bytes)
