-- The records that a reader of a proof hands out as the bytes come: those that are opened and
-- not left out, in reading order, up to the first fault.
use Rattle.std.specs.Prelude.{ℕ, ◌+◌, Bool, false, not, ◌&&◌, ◌||◌, nat_lt, if◌then◌else◌, List, [], ◌∷◌, Result, Ok, Err}
use Rattle.mr_record.specs.declared.record.Record.{Record}
use Rattle.mr_proof.specs.declared.rule.Fault.{Fault}
use Rattle.mr_proof.specs.declared.field.Field.{Field}
use Rattle.mr_proof.specs.Limits.{place_limit}
use Rattle.mr_proof.specs.Fields.{size_of}
use Rattle.mr_proof.specs.Tight.{Question}
use Rattle.mr_proof.specs.Grammar.{must, opens, Grammar, done, reads, notes, whole}
use Rattle.mr_proof.specs.Layout.{Cursor, start, field_at}

-- Whether a fault is fixed at this place, whatever bytes follow: a note fails before the next
-- field, or that field would end past the limit.
abbrev pub is_fixed : {A : Type 0} → Grammar A → ℕ → Bool
is_fixed (done x) at = false
is_fixed (reads w next) at = nat_lt place_limit (at + size_of w)
is_fixed (notes (must r passes) next) at = not passes || is_fixed next at
is_fixed (notes (opens r met) next) at = is_fixed next at

abbrev pub if_read : Result (Field × Cursor) Fault → (Field × Cursor → List Record) → List Record
if_read (Ok x) behind = behind x
if_read (Err f) behind = []

-- the record in front, where it is handed out
abbrev pub if_handed : Bool → Record → List Record → List Record
if_handed out r rs = if out then r ∷ rs else rs

-- the records handed out; one whose last byte also fixes a fault is not
abbrev pub handed : {A : Type 0} → Grammar A → Cursor → List Record
handed (done x) s = []
handed (reads w next) s = if_read (field_at w s) (λ x. handed (next x.0) x.1)
handed (notes (must r passes) next) s = if passes then handed next s else []
handed (notes (opens r met) next) s =
    if_handed (met && not (is_fixed next s.at)) r (handed next s)

-- those of the bytes, as a proof of what is asked
unfoldable pub handed_out : Question → List ℕ → List Record
handed_out a bytes = handed (whole a.kind a.two_only a.way) (start bytes)
