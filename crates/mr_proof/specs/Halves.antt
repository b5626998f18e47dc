-- The verdict in its two halves, and what bytes spell: what the check of a proof is worth.
use Rattle.std.specs.Prelude.{◌≡◌, ◌⊎◌, ◌↔◌, ℕ, ◌^◌, ◌<◌, List, ◌++◌, length, ⊤, Option, Some, IfSome, Ok, Err}
use Rattle.mr_record.specs.declared.record.Record.{Record}
use Rattle.mr_tree.specs.Tree.{records}
use Rattle.mr_tree.specs.Digest.{Scheme, root}
use Rattle.mr_tree.specs.WellFormed.{WellFormed, HasLayers}
use Rattle.mr_tree.specs.declared.tree.Tree.{Tree}
use Rattle.mr_query.specs.declared.query.Query.{Query}
use Rattle.mr_query.specs.Scan.{scan}
use Rattle.mr_proof.specs.declared.head.Kind.{Kind}
use Rattle.mr_proof.specs.declared.head.Kind.TheVariants as kind
use Rattle.mr_proof.specs.declared.head.Head.{Head}
use Rattle.mr_proof.specs.declared.rule.Rule.{Rule}
use Rattle.mr_proof.specs.declared.rule.Rule.TheVariants as rule
use Rattle.mr_proof.specs.declared.rule.Fault.{Fault}
use Rattle.mr_proof.specs.Cut.{Cut, CutOf}
use Rattle.mr_proof.specs.Spelling.{Parsed, said, IsSpelled}
use Rattle.mr_proof.specs.Tight.{Question, MayCome, question, IsTight}
use Rattle.mr_proof.specs.Accepted.{root_found, ShowsCut, ProvesAnswer}
use Rattle.mr_proof.specs.Honest.{honest_head, honest_part, honest_said, proof_for, proof}
use Rattle.mr_proof.specs.Refused.{IsRefused}
use Rattle.mr_proof.specs.Reading.{checked, verdict, pair_of, pair_in}

-- ---- of whatever is asked

-- the head and cut of the verdict are just those that the bytes show
abbrev pub ShowsJust : (List ℕ → List ℕ) → List ℕ → Question → List ℕ → Type 0
ShowsJust hash root a bytes =
    (x : Parsed) → (checked hash root a bytes ≡ Ok x) ↔ ShowsCut hash root a bytes x

-- it is a fault just where that is the first of all that is broken
abbrev pub FaultsJust : (List ℕ → List ℕ) → List ℕ → Question → List ℕ → Type 0
FaultsJust hash root a bytes =
    (f : Fault) → (checked hash root a bytes ≡ Err f) ↔ IsRefused hash root a bytes f

-- two pairs of head and cut of one kind that the bytes spell, tight or not, are one
abbrev pub SpellsOneOf : Kind → List ℕ → Type 0
SpellsOneOf k bytes =
    (h g : Head) (P Q : Option Cut) → h.kind ≡ k → g.kind ≡ k → IsSpelled h P bytes
    → IsSpelled g Q bytes → (h ≡ g) × (P ≡ Q)

-- what is found in bytes is the pair of the kind that they spell, where they spell one
abbrev pub FindsPairOf : Kind → List ℕ → Type 0
FindsPairOf k bytes =
    (h : Head) (P : Option Cut) → ((h.kind ≡ k) × IsSpelled h P bytes)
    ↔ (pair_of k bytes ≡ Some (said h P))

-- no byte behind the string changes that the rule is broken, or where
abbrev pub IsSettled : Rule → Type 0
IsSettled rule.Short = ⊥
IsSettled (rule.WrongRoot found) = ⊥
IsSettled rule.WrongRadius = ⊥
IsSettled rule.WrongTally = ⊥
IsSettled _ = ⊤

-- such a fault of the bytes is that of all longer ones
abbrev pub StaysRefused : (List ℕ → List ℕ) → List ℕ → Question → List ℕ → Type 0
StaysRefused hash root a bytes =
    (f : Fault) (more : List ℕ) → IsSettled f.rule → IsRefused hash root a bytes f
    → IsRefused hash root a (bytes ++ more) f

-- the honest proof of every map of the scheme's version, where there is one, is accepted, as that
-- of its head and cut
abbrev pub AcceptsHonestProof : Scheme → Question → Type 0
AcceptsHonestProof s a =
    (t : Tree) (batch : ℕ) → MayCome a s.version → WellFormed t → HasLayers s.version t
    → batch < 2 ^ 64
    → checked s.of (root s t batch) a (proof_for s a t batch) ≡ Ok (honest_said s a t batch)

-- it spells its head and its cut, which is a tight cut of the tree, with the map's root digest; and
-- it is short
pub record IsHonestProof (s : Scheme) (t : Tree) (batch : ℕ) (a : Question) : Type 0 where
  pub spelled : IsSpelled (honest_head s a t batch) (honest_part s a t) (proof_for s a t batch)
  pub tight : IsTight a (honest_head s a t batch) (honest_part s a t)
  pub cut : IfSome (honest_part s a t) (λ P. CutOf s P t)
  pub held : root_found s.of (honest_head s a t batch) (honest_part s a t) ≡ root s t batch
  pub short : length (proof_for s a t batch) < 2 ^ 28

-- ---- of queries

-- the verdict is an answer just where the bytes prove it
abbrev pub AcceptsJust : (List ℕ → List ℕ) → List ℕ → Query → List ℕ → Type 0
AcceptsJust hash root q bytes =
    (answer : List Record) → (verdict hash root q bytes ≡ Ok answer) ↔ ProvesAnswer hash root
    q bytes
    answer

-- it is a fault just where that is the first of all that is broken
abbrev pub RefusesJust : (List ℕ → List ℕ) → List ℕ → Query → List ℕ → Type 0
RefusesJust hash root q bytes =
    (f : Fault) → (verdict hash root q bytes ≡ Err f) ↔ IsRefused hash root (question q) bytes f

-- the bytes prove an answer or have a fault, and never both
pub record OneHalf (hash : List ℕ → List ℕ) (root : List ℕ) (q : Query)
    (bytes : List ℕ) : Type 0 where
  pub some : ((answer : List Record) × ProvesAnswer hash root q bytes answer) ⊎
      ((f : Fault) × IsRefused hash root (question q) bytes f)
  pub apart : (answer : List Record) (f : Fault) → ProvesAnswer hash root q bytes answer
      → IsRefused hash root (question q) bytes f → ⊥

-- the kinds of queries
abbrev pub IsQueried : Kind → Type 0
IsQueried (kind.Choice letter) = ⊥
IsQueried _ = ⊤

-- two pairs of head and cut that the bytes spell, for queries of whatever kind, tight or not, are
-- one
abbrev pub SpellsOne : List ℕ → Type 0
SpellsOne bytes =
    (h g : Head) (P Q : Option Cut) → IsQueried h.kind → IsQueried g.kind → IsSpelled h P bytes
    → IsSpelled g Q bytes → (h ≡ g) × (P ≡ Q)

-- what is found in bytes is the pair that they spell, where they spell one
abbrev pub FindsPair : List ℕ → Type 0
FindsPair bytes =
    (h : Head) (P : Option Cut) → (IsQueried h.kind × IsSpelled h P bytes)
    ↔ (pair_in bytes ≡ Some (said h P))

-- the honest proof of every map of the scheme's version, where there is one, is accepted, with the
-- answer of a scan of the map's records
abbrev pub AcceptsHonest : Scheme → Query → Type 0
AcceptsHonest s q =
    (t : Tree) (batch : ℕ) → MayCome (question q) s.version → WellFormed t → HasLayers s.version t
    → batch < 2 ^ 64 → verdict s.of (root s t batch) q (proof s t batch q) ≡ Ok (scan (records t) q)
