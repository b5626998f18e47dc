-- Where the reading of some bytes stops, and how the notes at one field are passed. This serves
-- private functions and proofs.
use Rattle.std.specs.Prelude.{ℕ, ◌+◌, nat_lt, if◌then◌else◌, List, [], ◌∷◌, ◌++◌, length, take, Result, Ok, Err}
use Rattle.mr_record.specs.declared.record.Record.{Record}
use Rattle.mr_proof.specs.Spelling.{Parsed}
use Rattle.mr_proof.specs.Tight.{Question}
use Rattle.mr_proof.specs.declared.rule.Rule.{Rule}
use Rattle.mr_proof.specs.declared.rule.Rule.TheVariants as rule
use Rattle.mr_proof.specs.declared.rule.Fault.{Fault}
use Rattle.mr_proof.specs.declared.field.Field.{Field}
use Rattle.mr_proof.specs.Limits.{place_limit}
use Rattle.mr_proof.specs.Fields.{size_of, field_of}
use Rattle.mr_proof.specs.Grammar.{must, opens, Grammar, done, reads, notes, whole}
use Rattle.mr_proof.specs.Layout.{fault, Cursor, start, behind}

-- in front of a field that is not whole, or behind the last one; or at a fault that no byte behind
-- these changes
pub data Stop (A : Type 0) : Type 0 where
  waits : Grammar A → Cursor → Stop A
  fails : Fault → Stop A

abbrev pub with_value : {A : Type 0} → Result Field Rule → ℕ → (Field → Stop A) → Stop A
with_value (Ok value) at next = next value
with_value (Err broken) at next = fails (fault broken at)

-- where reading stops, from here on
abbrev pub stop : {A : Type 0} → Grammar A → Cursor → Stop A
stop (done x) s =
    if nat_lt 0 (length s.rest) then fails (fault rule.Trailing s.at) else waits (done x) s
stop (reads w next) s =
    if nat_lt place_limit (s.at + size_of w) then fails (fault rule.Long s.at)
    else if nat_lt (length s.rest) (size_of w) then waits (reads w next) s
    else with_value (field_of w (take (size_of w) s.rest)) s.at (λ v. stop (next v) (behind w s))
stop (notes (must r passes) next) s = if passes then stop next s else fails (fault r s.last)
stop (notes (opens r met) next) s = stop next s

-- the same place, with more bytes to come
abbrev pub longer : List ℕ → Cursor → Cursor
longer more s = record { at = s.at; last = s.last; rest = s.rest ++ more }

-- a place with nothing left
abbrev pub cursor_at : ℕ → ℕ → Cursor
cursor_at at last = record { at = at; last = last; rest = [] }

-- where it stops with more bytes
abbrev pub resume : {A : Type 0} → Stop A → List ℕ → Stop A
resume (waits g s) more = stop g (longer more s)
resume (fails f) more = fails f

-- ---- the notes at one field

-- what is read next, past the notes that stand here, or the first rule that they say is broken
abbrev pub past_notes : {A : Type 0} → Grammar A → Result (Grammar A) Rule
past_notes (done x) = Ok (done x)
past_notes (reads w next) = Ok (reads w next)
past_notes (notes (must r passes) next) = if passes then past_notes next else Err r
past_notes (notes (opens r met) next) = past_notes next

-- the records that they give
abbrev pub noted : {A : Type 0} → Grammar A → List Record
noted (done x) = []
noted (reads w next) = []
noted (notes (must r passes) next) = noted next
noted (notes (opens r met) next) = if met then r ∷ noted next else noted next

-- ---- a proof

-- where the reading of these bytes as a proof of what is asked stops
unfoldable pub stop_of : Question → List ℕ → Stop Parsed
stop_of q bytes = stop (whole q.kind q.two_only q.way) (start bytes)
