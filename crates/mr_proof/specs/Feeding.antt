-- A proof that comes in pieces: what is known by the bytes so far, and at their end.
use Rattle.std.specs.Prelude.{◌≡◌, ℕ, ◌-◌, List, [], ◌∷◌, ◌++◌, take, filter, Option, IfSome, Result, Ok, Err}
use Rattle.mr_record.specs.declared.record.Record.{Record}
use Rattle.mr_query.specs.declared.query.Query.{Query}
use Rattle.mr_query.specs.Scan.{scan}
use Rattle.mr_proof.specs.declared.head.Head.{Head}
use Rattle.mr_proof.specs.declared.rule.Fault.{Fault}
use Rattle.mr_proof.specs.Cut.{Cut}
use Rattle.mr_proof.specs.Spelling.{Parsed, opened_records, IsSpelled}
use Rattle.mr_proof.specs.Tight.{Question, question, keeps_record, MayCome, IsTightCut}
use Rattle.mr_proof.specs.Reading.{checked, verdict}
use Rattle.mr_proof.specs.Halves.{IsSettled}
use Rattle.mr_proof.specs.Handed.{handed_out}

-- the verdict of the bytes is no fault that is that of all longer strings
abbrev pub IsUnsettled : (List ℕ → List ℕ) → List ℕ → Question → List ℕ → Type 0
IsUnsettled hash root a bytes =
    (f : Fault) → checked hash root a bytes ≡ Err f → IsSettled f.rule → ⊥

-- behind these bytes the last of so many of the piece completes a record, the first that the piece
-- hands out
pub record CompletesRecord (a : Question) (so_far piece : List ℕ) (taken : ℕ) (one : Record) :
    Type 0
  where
    pub item : handed_out a (so_far ++ take taken piece) ≡ handed_out a so_far ++ one ∷ []
    pub none_before : handed_out a (so_far ++ take (taken - 1) piece) ≡ handed_out a so_far

-- behind these bytes the piece hands out no record, and the fault is the verdict of all strings
-- that begin with both
pub record IsFinal (hash : List ℕ → List ℕ) (root : List ℕ) (a : Question) (so_far piece : List ℕ)
    (f : Fault) : Type 0 where
  pub settled : IsSettled f.rule
  pub all : (more : List ℕ) → checked hash root a ((so_far ++ piece) ++ more) ≡ Err f
  pub none : handed_out a (so_far ++ piece) ≡ handed_out a so_far

-- some records, and then the rest of them
abbrev pub IsFrontOfRecords : List Record → List Record → Type 0
IsFrontOfRecords some all = (rest : List Record) × (all ≡ some ++ rest)

-- the records that are opened and not left out, in reading order
abbrev pub kept_records : Question → Head → Option Cut → List Record
kept_records a h P = filter (keeps_record (a.way h.radius)) (opened_records P)

-- Of bytes that spell a head, of a version that may come, and a cut the records handed out are the
-- first of those opened that are not left out, and all of them where the cut's parts are tight:
-- whatever the root digest and the radius, accepted or not.
pub record HandsOpened (a : Question) (bytes : List ℕ) : Type 0 where
  pub front : (h : Head) (P : Option Cut) → h.kind ≡ a.kind → MayCome a h.version
      → IsSpelled h P bytes
      → IsFrontOfRecords (handed_out a bytes) (kept_records a h P)
  pub tight : (h : Head) (P : Option Cut) → h.kind ≡ a.kind → MayCome a h.version
      → IsSpelled h P bytes
      → IfSome P (IsTightCut h.version (a.way h.radius)) → handed_out a bytes ≡ kept_records a h P

-- the proof is accepted, with this head and cut; and the records that were handed out are those
-- opened that are not left out, in reading order
pub record HandsOut (hash : List ℕ → List ℕ) (root : List ℕ) (a : Question) (bytes : List ℕ)
    (x : Parsed) : Type 0 where
  pub is_read : checked hash root a bytes ≡ Ok x
  pub all : handed_out a bytes
      ≡ filter (keeps_record (a.way x.head.radius)) (opened_records x.part)

-- for a query their scan is the answer
pub record HandsOutAll (hash : List ℕ → List ℕ) (root : List ℕ) (q : Query)
    (bytes : List ℕ) : Type 0 where
  pub said : Parsed
  pub hands : HandsOut hash root (question q) bytes said
  pub answer : verdict hash root q bytes ≡ Ok (scan (handed_out (question q) bytes) q)

-- what is answered at the end of the bytes: their verdict
abbrev pub EndsFeeding : {X : Type 0} → (List ℕ → List ℕ) → List ℕ → Query → List ℕ → Result X Fault
    → Type 0
EndsFeeding hash root q bytes (Ok x) = HandsOutAll hash root q bytes
EndsFeeding hash root q bytes (Err f) = verdict hash root q bytes ≡ Err f
