-- Reading a proof from the front, up to the first fault.
use Rattle.std.specs.Prelude.{ℕ, ◌+◌, Bool, true, false, not, ◌==◌, ◌||◌, nat_lt, if◌then◌else◌, List, length, slice_index, bytes_eq, Option, Some, None, Result, Ok, Err}
use Rattle.mr_record.specs.declared.record.Record.{Record}
use Rattle.mr_query.specs.declared.query.Query.{Query}
use Rattle.mr_proof.specs.declared.head.Kind.{Kind}
use Rattle.mr_proof.specs.declared.head.Kind.TheVariants as kind
use Rattle.mr_proof.specs.declared.rule.Rule.TheVariants as rule
use Rattle.mr_proof.specs.declared.rule.Fault.{Fault}
use Rattle.mr_proof.specs.Fields.{kind_byte}
use Rattle.mr_proof.specs.Spelling.{Parsed, opened_records}
use Rattle.mr_query.specs.Scan.{scan}
use Rattle.mr_proof.specs.declared.way.Way.{Way}
use Rattle.mr_proof.specs.declared.way.Way.TheVariants as ways
use Rattle.mr_query.specs.declared.key.Key.{Key}
use Rattle.mr_proof.specs.Tight.{Question, needs_two, question}
use Rattle.mr_proof.specs.Accepted.{root_found}
use Rattle.mr_proof.specs.Grammar.{Note, must, opens, Grammar, done, reads, notes, whole}
use Rattle.mr_proof.specs.Layout.{fault, Cursor, start, field_at}
use Rattle.mr_proof.specs.Refused.{has_other_radius, has_other_count}

-- the second step, if the first met no fault
infixl 10 ◌>>=◌
abbrev pub ◌>>=◌ : {A B : Type 0} → Result A Fault → (A → Result B Fault) → Result B Fault
Ok x >>= f = f x
Err e >>= f = Err e

-- past a note at the last field, which stands at this place: a note that is heeded stops where its
-- test fails
abbrev pub past : {B : Type 0} → Bool → Note → ℕ → Result B Fault → Result B Fault
past heeds (must broken passes) at rest =
    if not heeds || passes then rest else Err (fault broken at)
past heeds (opens r met) at rest = rest

-- What the ending gives after the last field, or the first fault before it: a field's, or, where
-- notes are heeded, a note's.
abbrev pub walk : {A B : Type 0} → Bool → (A → Cursor → Result B Fault) → Grammar A → Cursor
    → Result B Fault
walk heeds ending (done x) s = ending x s
walk heeds ending (reads w next) s = field_at w s >>= λ x. walk heeds ending (next x.0) x.1
walk heeds ending (notes n next) s = past heeds n s.last (walk heeds ending next s)

-- ---- a proof that is checked

-- the head and the cut after a layout that reached its last field, or the first fault behind it
unfoldable pub ending : (List ℕ → List ℕ) → List ℕ → Question → Parsed → Cursor → Result
    Parsed Fault
ending hash root a x s =
    if nat_lt 0 (length s.rest) then Err (fault rule.Trailing s.at)
    else if not (bytes_eq (root_found hash x.head x.part) root) then
    Err (fault (rule.WrongRoot (root_found hash x.head x.part)) (s.at + length s.rest))
    else if has_other_radius a.around x.head.radius (opened_records x.part) then
    Err (fault rule.WrongRadius (s.at + length s.rest))
    else if has_other_count x then Err (fault rule.WrongTally (s.at + length s.rest))
    else Ok x

-- the head and the cut of an accepted proof, or the fault of the bytes
unfoldable pub checked : (List ℕ → List ℕ) → List ℕ → Question → List ℕ → Result Parsed Fault
checked hash root a bytes =
    walk true (ending hash root a) (whole a.kind a.two_only a.way) (start bytes)

-- the answer to a query that the bytes prove, or their fault
unfoldable pub verdict : (List ℕ → List ℕ) → List ℕ → Query → List ℕ → Result (List Record) Fault
verdict hash root q bytes =
    checked hash root (question q) bytes >>= λ x. Ok (scan (opened_records x.part) q)

-- ---- what any bytes spell

-- the kind of query that the bytes, where they are a proof, are for
abbrev pub kind_in : List ℕ → Kind
kind_in bytes = if slice_index bytes 5 == kind_byte kind.K then kind.K else kind.W

-- nothing is left behind the last field
abbrev pub at_end : Parsed → Cursor → Result Parsed Fault
at_end x s = if nat_lt 0 (length s.rest) then Err (fault rule.Trailing s.at) else Ok x

abbrev pub if_spelled : Result Parsed Fault → Option Parsed
if_spelled (Ok x) = Some x
if_spelled (Err f) = None

-- any ways: where notes are not heeded, none counts
abbrev pub anywhere : Option ℕ → Key → Way
anywhere radius s = ways.Open

-- the head and the cut that the whole of the bytes spells, in a proof of this kind, tight or not
unfoldable pub pair_of : Kind → List ℕ → Option Parsed
pair_of k bytes =
    if_spelled (walk false at_end (whole k (needs_two k) anywhere) (start bytes))

-- for a query of whatever kind that names no mask
abbrev pub pair_in : List ℕ → Option Parsed
pair_in bytes = pair_of (kind_in bytes) bytes
