-- The refusing half: all rules that a byte string breaks as a proof, and which of them is its
-- fault.
use Rattle.std.specs.Prelude.{◌≡◌, ◌⊎◌, ℕ, ◌+◌, ◌<◌, Bool, false, not, ◌==◌, ◌||◌, nat_lt, nat_le, if◌then◌else◌, List, [], ◌∷◌, ◌++◌, length, All, bytes_eq, Option, Some, None, Result, Ok, Err}
use Rattle.std.specs.List.{Contains}
use Rattle.mr_record.specs.declared.record.Record.{Record}
use Rattle.mr_record.specs.Version.{told}
use Rattle.mr_query.specs.Nearest.{nearer_than, not_farther_than}
use Rattle.mr_query.specs.Scan.{on_layers}
use Rattle.mr_proof.specs.declared.head.Head.{Head}
use Rattle.mr_proof.specs.Cut.{Cut, count}
use Rattle.mr_proof.specs.declared.rule.Rule.{Rule}
use Rattle.mr_proof.specs.declared.rule.Rule.TheVariants as rule
use Rattle.mr_proof.specs.declared.rule.Fault.{Fault}
use Rattle.mr_proof.specs.declared.field.Field.{Field}
use Rattle.mr_proof.specs.Spelling.{Parsed, opened_records}
use Rattle.mr_proof.specs.declared.question.Around.{Around}
use Rattle.mr_proof.specs.Tight.{Question}
use Rattle.mr_proof.specs.Accepted.{root_found}
use Rattle.mr_proof.specs.Grammar.{Note, must, opens, Grammar, done, reads, notes, whole}
use Rattle.mr_proof.specs.Layout.{fault, Cursor, start, field_at}

-- ---- the first of some faults

-- the number of a rule: of several at one place the least counts
abbrev pub rank : Rule → ℕ
rank rule.Long = 0
rank rule.Short = 1
rank rule.BadMagic = 2
rank rule.BadVersion = 3
rank rule.WrongKind = 4
rank rule.BadCount = 5
rank rule.BadFlag = 6
rank rule.BadRadius = 7
rank rule.BadLevel = 8
rank rule.BadTag = 9
rank rule.BadEntries = 10
rank rule.BadRect = 11
rank rule.BadLength = 12
rank rule.Hidden = 13
rank rule.Needless = 14
rank rule.Trailing = 15
rank (rule.WrongRoot found) = 16
rank rule.WrongRadius = 17
rank rule.WrongTally = 18
rank rule.BadLayer = 19

-- the first goes before the second: it has the lesser place, or at one place the lesser rule
abbrev pub Before : Fault → Fault → Type 0
Before f g = (f.at < g.at) ⊎ ((f.at ≡ g.at) × (rank f.rule < rank g.rule))

-- f is one of the faults, and goes before all others
pub record IsFirst (f : Fault) (faults : List Fault) : Type 0 where
  pub is_one : Contains faults f
  pub least : All (λ g. (g ≡ f) ⊎ Before f g) faults

-- ---- all faults

abbrev pub if_fault : Bool → Fault → List Fault
if_fault broken f = if broken then f ∷ [] else []

-- the faults behind a field that is read, or its own fault, with which the layout ends
abbrev pub with_field : Result (Field × Cursor) Fault → (Field → Cursor → List Fault) → List Fault
with_field (Ok x) behind = behind x.0 x.1
with_field (Err f) behind = f ∷ []

-- the fault of a note at the last field, which stands at this place
abbrev pub note_faults : Note → ℕ → List Fault
note_faults (must broken passes) at = if_fault (not passes) (fault broken at)
note_faults (opens r met) at = []

-- All faults of the layout: that of the field with which it ends, those of the notes on the way,
-- and after a layout that reached its last field those that then are found.
abbrev pub faults : {A : Type 0} → (A → Cursor → List Fault) → Grammar A → Cursor → List Fault
faults ending (done x) s = ending x s
faults ending (reads w next) s = with_field (field_at w s) (λ value t. faults ending (next value) t)
faults ending (notes n next) s = note_faults n s.last ++ faults ending next s

-- Whether the squared radius is another than that of some records. Without one, they are at least
-- k; with one, at least k are nearer than it, or fewer than k are not farther.
abbrev pub is_other_radius : Around → Option ℕ → List Record → Bool
is_other_radius x None records = nat_le x.k (length records)
is_other_radius x (Some n) records =
    nat_le x.k (nearer_than x.center n records) || nat_lt (not_farther_than x.center n records) x.k

-- whether it is another than that of the opened records that are on the layers, if heads have one
abbrev pub has_other_radius : Option Around → Option ℕ → List Record → Bool
has_other_radius None radius records = false
has_other_radius (Some x) radius records = is_other_radius x radius (on_layers x.layers records)

-- whether a cut counts another number of records than the head; the first version counts none
abbrev pub is_other_count : Head → Option Cut → Bool
is_other_count h None = false
is_other_count h (Some P) = not (count h.version P == told h.version h.count)

abbrev pub has_other_count : Parsed → Bool
has_other_count x = is_other_count x.head x.part

-- what is found after a layout that reached its last field
abbrev pub last_faults : (List ℕ → List ℕ) → List ℕ → Question → Parsed → Cursor → List Fault
last_faults hash root a x s =
    let found = root_found hash x.head x.part in
    let end = s.at + length s.rest in
    if_fault (nat_lt 0 (length s.rest)) (fault rule.Trailing s.at)
    ++ (if_fault (not (bytes_eq found root)) (fault (rule.WrongRoot found) end)
    ++ (if_fault (has_other_radius a.around x.head.radius (opened_records x.part))
    (fault rule.WrongRadius end)
    ++ if_fault (has_other_count x) (fault rule.WrongTally end)))

-- all faults of the bytes as a proof
abbrev pub all_faults : (List ℕ → List ℕ) → List ℕ → Question → List ℕ → List Fault
all_faults hash root a bytes =
    faults (last_faults hash root a) (whole a.kind a.two_only a.way) (start bytes)

-- the fault of the bytes: of all that are broken the one with the least place, and at that place
-- with the least rule
abbrev pub IsRefused : (List ℕ → List ℕ) → List ℕ → Question → List ℕ → Fault → Type 0
IsRefused hash root a bytes f = IsFirst f (all_faults hash root a bytes)
