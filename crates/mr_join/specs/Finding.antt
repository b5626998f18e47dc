-- What the audit of a join's proof finds.
use Rattle.std.specs.Prelude.{◌≡◌, ◌↔◌, ℕ, List, Option, Some, None, Result, Ok, Err, ⊤}
use Rattle.mr_tree.specs.Digest.{Scheme}
use Rattle.mr_tree.specs.Nodes.{MapModel, IsTop}
use Rattle.mr_tree.specs.declared.nodes.Top.{Top}
use Rattle.mr_proof.specs.Clash as clashes
use Rattle.mr_proof.specs.Clash.{IsCollision}
use Rattle.mr_clash.specs.Finding.{root_at}
use Rattle.mr_join.specs.declared.fault.JoinFault.{JoinFault}
use Rattle.mr_join.specs.declared.finding.JoinFinding.{JoinFinding}
use Rattle.mr_join.specs.declared.finding.JoinFinding.TheVariants as findings
use Rattle.mr_join.specs.declared.pair.Pair.{Pair}
use Rattle.mr_join.specs.Verdict.{Held, join_verdict, MayBreakJoin}
use Rattle.mr_join.specs.Accepted.{Owned, held, first_clash, second_clash, join_proof, map_pairs}

-- of bytes that are accepted with these pairs: the strings of the first map, where there are two,
-- and else those of the second
abbrev pub finding_by : List Pair → (first second : Option clashes.Pair) → JoinFinding
finding_by pairs (Some p) second = findings.First p.owned p.shown
finding_by pairs None (Some q) = findings.Second q.owned q.shown
finding_by pairs None None = findings.Sound pairs

-- by the verdict and the strings
abbrev pub finding_of : Result (List Pair) JoinFault → (first second : Option clashes.Pair)
    → JoinFinding
finding_of (Err f) first second = findings.Refused f
finding_of (Ok pairs) first second = finding_by pairs first second

-- of two maps, each in its version, and bytes that are offered as their join's proof
abbrev pub join_found : Scheme → Scheme → Owned → Owned → List ℕ → JoinFinding
join_found s v m n bytes =
    finding_of (join_verdict (held s m) (held v n) bytes) (first_clash s m bytes)
    (second_clash v n bytes)

-- two byte strings that are shown differ and have one hash
abbrev pub ShowsCollision : (f g : List ℕ → List ℕ) → JoinFinding → Type 0
ShowsCollision f g (findings.First owned shown) =
    IsCollision f (record { owned = owned; shown = shown })
ShowsCollision f g (findings.Second owned shown) =
    IsCollision g (record { owned = owned; shown = shown })
ShowsCollision f g _ = ⊤

-- it is said to be the honest proof
abbrev pub IsSound : JoinFinding → Type 0
IsSound (findings.Sound pairs) = ⊤
IsSound _ = ⊥

-- just the honest proof is found to be sound, and its pairs are all of the two maps
pub record FindsHonestJoin (f g : List ℕ → List ℕ) (m n : Owned) (bytes : List ℕ)
    (finding : JoinFinding) : Type 0 where
  pub just : IsSound finding ↔ (bytes ≡ join_proof f g m n)
  pub whole : (pairs : List Pair) → finding ≡ findings.Sound pairs → pairs ≡ map_pairs m n

-- a fault that is found is of no flag and no squared radius in either part, whatever the maps
abbrev pub BreaksNoFlag : JoinFinding → Type 0
BreaksNoFlag (findings.Refused f) = MayBreakJoin f
BreaksNoFlag _ = ⊤

-- ---- of maps that need not be told

-- what a client holds of a map that says this of itself
abbrev pub said_by : (List ℕ → List ℕ) → Top → Held
said_by hash top = record { of = hash; root = hash (root_at top) }

-- told or not: by the verdict against the root digests of what maps that stand so say of
-- themselves, which are these
pub record FindsForJoin (f g : List ℕ → List ℕ) (s v : MapModel) (top other : Top) (bytes : List ℕ)
    (finding : JoinFinding) : Type 0 where
  pub is_top : IsTop f s top
  pub is_other : IsTop g v other
  pub first : Option clashes.Pair
  pub second : Option clashes.Pair
  pub found : finding
      ≡ finding_of (join_verdict (said_by f top) (said_by g other) bytes) first second
