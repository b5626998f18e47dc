-- The layout of a byte string: the field that stands next, or why none does.
use Rattle.std.specs.Prelude.{ℕ, ◌+◌, nat_lt, if◌then◌else◌, List, length, take, drop, Result, Ok, Err}
use Rattle.mr_proof.specs.declared.rule.Rule.{Rule}
use Rattle.mr_proof.specs.declared.rule.Rule.TheVariants as rule
use Rattle.mr_proof.specs.declared.rule.Fault.{Fault}
use Rattle.mr_proof.specs.declared.want.Want.{Want}
use Rattle.mr_proof.specs.declared.field.Field.{Field}
use Rattle.mr_proof.specs.Limits.{place_limit}
use Rattle.mr_proof.specs.Fields.{size_of, field_of}

abbrev pub fault : Rule → ℕ → Fault
fault broken at = record { rule = broken; at = at }

-- Where a layout stands: the place of the next field, that of the last one, and the bytes from the
-- next field on.
pub record Cursor : Type 0 where
  pub at : ℕ
  pub last : ℕ
  pub rest : List ℕ

-- before the first field
abbrev pub start : List ℕ → Cursor
start bytes = record { at = 0; last = 0; rest = bytes }

-- behind the field
abbrev pub behind : Want → Cursor → Cursor
behind w s = record { at = s.at + size_of w; last = s.at; rest = drop (size_of w) s.rest }

abbrev pub field_or_fault : Want → Cursor → Result Field Rule → Result (Field × Cursor) Fault
field_or_fault w s (Ok value) = Ok (value, behind w s)
field_or_fault w s (Err broken) = Err (fault broken s.at)

-- the field that stands next, if it is whole and breaks no rule of its own
unfoldable pub field_at : Want → Cursor → Result (Field × Cursor) Fault
field_at w s =
    if nat_lt place_limit (s.at + size_of w) then Err (fault rule.Long s.at)
    else if nat_lt (length s.rest) (size_of w) then Err (fault rule.Short s.at)
    else field_or_fault w s (field_of w (take (size_of w) s.rest))
