-- What the audit of a proof for a choice finds.
use Rattle.std.specs.Prelude.{◌≡◌, ◌↔◌, ℕ, List, Option, Some, None, Result, Ok, Err, ⊤}
use Rattle.mr_tree.specs.Digest.{Scheme, root}
use Rattle.mr_tree.specs.Nodes.{MapModel, IsTop}
use Rattle.mr_tree.specs.declared.nodes.Top.{Top}
use Rattle.mr_tree.specs.declared.tree.Tree.{Tree}
use Rattle.mr_query.specs.declared.key.Key.{Key}
use Rattle.mr_proof.specs.declared.head.Kind.TheVariants as kind
use Rattle.mr_proof.specs.declared.rule.Fault.{Fault}
use Rattle.mr_proof.specs.declared.way.Way.{Way}
use Rattle.mr_proof.specs.Honest.{IsProofFor}
use Rattle.mr_proof.specs.Clash.{Pair, clash_of, IsCollision}
use Rattle.mr_clash.specs.Finding.{root_at}
use Rattle.mr_count.specs.declared.finding.ChoiceFinding.{ChoiceFinding}
use Rattle.mr_count.specs.declared.finding.ChoiceFinding.TheVariants as findings
use Rattle.mr_count.specs.declared.taken.Taken.{Taken}
use Rattle.mr_count.specs.Chosen.{chosen, verdict_for, IsChosen, FitsTaken, MayBreak}

-- of bytes that are accepted and give this: the pair, where there is one
abbrev pub finding_by : Taken → Option Pair → ChoiceFinding
finding_by x None = findings.Sound x
finding_by x (Some p) = findings.Collision p.owned p.shown

-- by the verdict and the pair
abbrev pub finding_of : Result Taken Fault → Option Pair → ChoiceFinding
finding_of (Err f) pair = findings.Refused f
finding_of (Ok x) pair = finding_by x pair

-- of the map with this tree at this batch, a choice, and bytes that are offered as a proof
abbrev pub found_for : Scheme → Tree → (batch letter : ℕ) → (Key → Way) → List ℕ → ChoiceFinding
found_for s t batch letter way bytes =
    finding_of (verdict_for s.of (root s t batch) letter way bytes)
    (clash_of (kind.Choice letter) s t batch bytes)

-- it is said to be the honest proof
abbrev pub IsSound : ChoiceFinding → Type 0
IsSound (findings.Sound x) = ⊤
IsSound _ = ⊥

-- just the honest proof is found to be sound
abbrev pub FindsHonestChoice : Scheme → Tree → (batch letter : ℕ) → (Key → Way) → List ℕ
    → ChoiceFinding → Type 0
FindsHonestChoice s t batch letter way bytes finding =
    IsSound finding ↔ IsProofFor s (chosen letter way) t batch bytes

-- and what it gives is of the map
abbrev pub GivesChosen : Tree → (Key → Way) → ChoiceFinding → Type 0
GivesChosen t way finding = (x : Taken) → finding ≡ findings.Sound x → IsChosen t way x

-- a fault that is found is of no flag and no squared radius, whatever the map
abbrev pub BreaksNoFlag : ChoiceFinding → Type 0
BreaksNoFlag (findings.Refused f) = MayBreak f.rule
BreaksNoFlag _ = ⊤

-- what it gives fits, whatever the map
abbrev pub GivesFitting : ChoiceFinding → Type 0
GivesFitting (findings.Sound x) = FitsTaken x
GivesFitting _ = ⊤

-- two byte strings that are shown differ and have one hash
abbrev pub ShowsCollision : (List ℕ → List ℕ) → ChoiceFinding → Type 0
ShowsCollision hash (findings.Collision owned shown) =
    IsCollision hash (record { owned = owned; shown = shown })
ShowsCollision hash _ = ⊤

-- told or not: by the verdict against the root digest of what a map that stands so says of itself,
-- which is this
abbrev pub FindsForChoice : (List ℕ → List ℕ) → MapModel → Top → (letter : ℕ) → (Key → Way)
    → List ℕ → ChoiceFinding → Type 0
FindsForChoice hash s top letter way bytes finding = IsTop hash s top × (pair : Option Pair)
    × (finding ≡ finding_of (verdict_for hash (hash (root_at top)) letter way bytes) pair)
