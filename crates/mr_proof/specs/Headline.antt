-- What an accepted proof is worth: it is the honest proof and its answer that of a scan of the
-- map's records, or it shows two strings that differ and have one hash.
use Rattle.std.specs.Prelude.{◌≡◌, ◌⊎◌, ℕ, ◌^◌, ◌<◌, List, Some, None, Ok, Err}
use Rattle.mr_record.specs.declared.record.Record.{Record}
use Rattle.mr_tree.specs.Tree.{records}
use Rattle.mr_tree.specs.Digest.{Scheme, root}
use Rattle.mr_tree.specs.WellFormed.{WellFormed, HasLayers}
use Rattle.mr_tree.specs.declared.tree.Tree.{Tree}
use Rattle.mr_query.specs.declared.query.Query.{Query}
use Rattle.mr_query.specs.Scan.{scan}
use Rattle.mr_proof.specs.declared.rule.Fault.{Fault}
use Rattle.mr_proof.specs.Spelling.{Parsed}
use Rattle.mr_proof.specs.Tight.{Question, MayCome, question}
use Rattle.mr_proof.specs.Accepted.{ProvesAnswer}
use Rattle.mr_proof.specs.Honest.{honest_said, proof_for, proof, IsProofFor, IsProof}
use Rattle.mr_proof.specs.Reading.{checked, verdict}
use Rattle.mr_proof.specs.Clash.{Pair, clash_of, clash, IsCollision, NoneAnd}

-- ---- of whatever is asked

-- the head and cut are the map's own, and the bytes are those that an honest server sends
pub record MatchesHonest (s : Scheme) (t : Tree) (batch : ℕ) (a : Question) (bytes : List ℕ)
    (x : Parsed) : Type 0 where
  pub same : x ≡ honest_said s a t batch
  pub own : IsProofFor s a t batch bytes

abbrev pub MatchesHonestOrCollides : Scheme → Tree → (batch : ℕ) → Question → List ℕ → Parsed →
    Type 0
MatchesHonestOrCollides s t batch a bytes x =
    NoneAnd s.of (clash_of a.kind s t batch bytes) (MatchesHonest s t batch a bytes x)

-- What bytes are worth that are accepted against the root digest of a map of the scheme's version,
-- whatever the map.
abbrev pub AcceptedMatchesHonest : Scheme → Question → List ℕ → Type 0
AcceptedMatchesHonest s a bytes =
    (t : Tree) (batch : ℕ) (x : Parsed) → WellFormed t → HasLayers s.version t → batch < 2 ^ 64
    → checked s.of (root s t batch) a bytes ≡ Ok x → MatchesHonestOrCollides s t batch a bytes x

-- The honest proof shows no pair.
abbrev pub HonestProofIsQuiet : Scheme → Question → Type 0
HonestProofIsQuiet s a =
    (t : Tree) (batch : ℕ) → MayCome a s.version → WellFormed t → HasLayers s.version t
    → batch < 2 ^ 64 → clash_of a.kind s t batch (proof_for s a t batch) ≡ None

-- ---- of queries

-- the answer is the whole of it, and the bytes are those that an honest server sends
pub record IsHonest (s : Scheme) (t : Tree) (batch : ℕ) (q : Query)
    (bytes : List ℕ) (answer : List Record) : Type 0 where
  pub complete : answer ≡ scan (records t) q
  pub own : IsProof s t batch q bytes

-- No two strings stand at one place and differ, and all is honest; or the first two that do are a
-- collision.
abbrev pub IsHonestOrCollides : Scheme → Tree → (batch : ℕ) → Query → List ℕ
    → List Record → Type 0
IsHonestOrCollides s t batch q bytes answer =
    NoneAnd s.of (clash s t batch bytes) (IsHonest s t batch q bytes answer)

-- What bytes are worth that prove an answer against the root digest of a map of the scheme's
-- version, whatever the map.
abbrev pub Headline : Scheme → Query → List ℕ → Type 0
Headline s q bytes =
    (t : Tree) (batch : ℕ) (answer : List Record) → WellFormed t → HasLayers s.version t
    → batch < 2 ^ 64
    → ProvesAnswer s.of (root s t batch) q bytes answer
    → IsHonestOrCollides s t batch q bytes answer

-- The same by the verdict: what an accepted proof is worth.
abbrev pub AcceptedIsHonest : Scheme → Query → List ℕ → Type 0
AcceptedIsHonest s q bytes =
    (t : Tree) (batch : ℕ) (answer : List Record) → WellFormed t → HasLayers s.version t
    → batch < 2 ^ 64
    → verdict s.of (root s t batch) q bytes ≡ Ok answer
    → IsHonestOrCollides s t batch q bytes answer

-- Bytes other than the honest proof are refused, or show a collision.
abbrev pub OthersFail : Scheme → Query → List ℕ → Type 0
OthersFail s q bytes =
    (t : Tree) (batch : ℕ) → WellFormed t → HasLayers s.version t → batch < 2 ^ 64
    → (IsProof s t batch q bytes → ⊥)
    → ((f : Fault) × (verdict s.of (root s t batch) q bytes ≡ Err f))
    ⊎ ((p : Pair) × (clash s t batch bytes ≡ Some p) × IsCollision s.of p)

-- The honest proof shows no pair.
abbrev pub HonestIsQuiet : Scheme → Query → Type 0
HonestIsQuiet s q =
    (t : Tree) (batch : ℕ) → MayCome (question q) s.version → WellFormed t → HasLayers s.version t
    → batch < 2 ^ 64 → clash s t batch (proof s t batch q) ≡ None
