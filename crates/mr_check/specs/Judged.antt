-- What a verifier and a judge stand for. They do not keep the bytes that they were fed, so
-- contracts go by a relation between them and a byte string, which is known by what they say of it.
use Rattle.std.specs.Prelude.{◌≡◌, ℕ, List, ◌++◌, filter, vec_capacity, ⊤, Result, Ok, Err}
use Rattle.mr_outside.specs.Bytes.{AreBytes}
use Rattle.mr_record.specs.declared.record.Record.{Record}
use Rattle.mr_query.specs.Word.{IsQuery}
use Rattle.mr_query.specs.declared.query.Query.{Query}
use Rattle.mr_proof.specs.declared.rule.Fault.{Fault}
use Rattle.mr_proof.specs.Spelling.{Parsed, opened_records}
use Rattle.mr_proof.specs.Tight.{Question, question, keeps_record, IsLawful}
use Rattle.mr_proof.specs.Handed.{handed_out}
use Rattle.mr_proof.specs.Feeding.{HandsOut}
use Rattle.mr_proof.specs.Reading.{checked}
use Rattle.mr_check.specs.declared.error.CheckErr.{CheckErr}
use Rattle.mr_check.specs.declared.error.CheckErr.TheVariants as errors
use Rattle.mr_tree.specs.declared.hash.Hashes.{Ghosts}
use Rattle.mr_check.specs.declared.verifier.Verifier.{Verifier}
use Rattle.mr_check.specs.declared.outline.Outline.{Outline}
use Rattle.mr_check.specs.declared.outline.Collected.{Collected}
use Rattle.mr_check.specs.declared.collector.Collector.{Collector}
use Rattle.mr_check.specs.declared.piece_check.PieceCheck.{PieceCheck}
use Rattle.mr_check.specs.declared.judge.Judge.{Judge}
use Rattle.mr_check.specs.Answers.{rect_round}
use Rattle.mr_check.specs.Whole.{whole_in}
use Rattle.mr_check.specs.private.Reads.{StandsBy}

-- ---- whatever is asked

-- the verifier was fed these bytes as a proof of what is asked, against the root digest; and from
-- the beginning on it has room for the seven nodes that may be open above a leaf, and no more
pub record WasFed {H : Type 0} {G : Ghosts H} (hash : List ℕ → List ℕ)
    (holds : H → List ℕ → Type 0) (root : List ℕ) (q : Question) (w : Verifier H G)
    (bytes : List ℕ) : Type 0 where
  pub held_root : w.root ≡ root
  pub lawful : IsLawful q
  pub fed : AreBytes bytes
  pub room : vec_capacity w.reader.machine.frames.list ≡ 7
  pub stands : StandsBy hash holds q w.reader w.reader.fault bytes

-- it is the outline of this head and cut, as a proof of what is asked shows them
pub record IsOutline (q : Question) (x : Parsed) (o : Outline) : Type 0 where
  pub head : o.head ≡ x.head
  pub rect : o.rect ≡ rect_round x.part
  pub whole : o.whole ≡ whole_in x.head.version (q.way x.head.radius) x.part

-- the bytes are accepted, with this outline, and the records handed out are all that are not left
-- out
pub record EndsAccepted (hash : List ℕ → List ℕ) (root : List ℕ) (q : Question) (bytes : List ℕ)
    (o : Outline) : Type 0 where
  pub said : Parsed
  pub hands : HandsOut hash root q bytes said
  pub outline : IsOutline q said o

-- what is answered at the end of the bytes
abbrev pub EndsAs : (List ℕ → List ℕ) → List ℕ → Question → List ℕ → Result Outline Fault → Type 0
EndsAs hash root q bytes (Ok o) = EndsAccepted hash root q bytes o
EndsAs hash root q bytes (Err f) = checked hash root q bytes ≡ Err f

-- ---- a proof that is taken piece by piece, with the records that are handed out

-- the proof is taken so far: its verifier stands for these bytes, and the records that were kept
-- are those that they hand out
pub record Took {H : Type 0} {G : Ghosts H} (hash : List ℕ → List ℕ) (holds : H → List ℕ → Type 0)
    (root : List ℕ) (q : Question) (w : Verifier H G) (kept : List Record) (bytes : List ℕ) : Type 0
  where
    pub stands : WasFed hash holds root q w bytes
    pub handed : kept ≡ handed_out q bytes

-- all strings that begin with these bytes have this fault, unless memory ran out
abbrev pub IsStopped : (List ℕ → List ℕ) → List ℕ → Question → List ℕ → CheckErr → Type 0
IsStopped hash root q bytes (errors.Fault f) =
    (more : List ℕ) → checked hash root q (bytes ++ more) ≡ Err f
IsStopped hash root q bytes errors.NoMemory = ⊤

-- this much of the proof was gathered in, of what is asked and against the root digest
abbrev pub HasCollected : {H : Type 0} {G : Ghosts H} → (List ℕ → List ℕ) → (H → List ℕ → Type 0)
    → List ℕ → Question → Collector H G → List ℕ → Type 0
HasCollected hash holds root q h bytes = Took hash holds root q h.verifier h.kept.items bytes

-- the head and cut of accepted bytes: their outline, and the records that are not left out
pub record IsCollected (x : Parsed) (q : Question) (o : Collected) : Type 0 where
  pub outline : IsOutline q x o.outline
  pub records : o.records.items
      ≡ filter (keeps_record (q.way x.head.radius)) (opened_records x.part)

-- what is answered for bytes: their verdict, unless memory ran out
abbrev pub AnswersCollected : (List ℕ → List ℕ) → List ℕ → Question → List ℕ
    → Result Collected CheckErr
    → Type 0
AnswersCollected hash root q bytes (Ok o) = (x : Parsed) × (checked hash root q bytes ≡ Ok x)
    × IsCollected x q o
AnswersCollected hash root q bytes (Err (errors.Fault f)) = checked hash root q bytes ≡ Err f
AnswersCollected hash root q bytes (Err errors.NoMemory) = ⊤

-- ---- queries

-- the judge was fed these bytes as a proof for the query, against the root digest
pub record WasFedForQuery {H : Type 0} {G : Ghosts H} (hash : List ℕ → List ℕ)
    (holds : H → List ℕ → Type 0) (root : List ℕ) (q : Query) (j : Judge H G)
    (bytes : List ℕ) : Type 0 where
  pub asked : j.query ≡ q
  pub is : IsQuery q
  pub fed : WasFed hash holds root (question q) j.verifier bytes

-- this much of the proof was taken in, for the query and against the root digest
pub record IsTaken {H : Type 0} {G : Ghosts H} (hash : List ℕ → List ℕ)
    (holds : H → List ℕ → Type 0)
    (root : List ℕ) (q : Query) (i : PieceCheck H G) (bytes : List ℕ) : Type 0 where
  pub asked : i.query ≡ q
  pub is : IsQuery q
  pub took : HasCollected hash holds root (question q) i.collector bytes
