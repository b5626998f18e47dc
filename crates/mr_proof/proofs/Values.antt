-- Single bytes, byte strings that are equal, and how long words are; values of their parts; and values and faults of
-- results.
use Rattle.std.proofs.Common.{◌≡◌, ℕ, true, List, [], ◌∷◌, length, drop, Result, Ok, Err, refl, arith}
use Rattle.std.specs.Prelude.{slice_index, bytes_eq, Option}
use Rattle.std.specs.Int.{w64, w128, to_be_bytes}
use Rattle.std.proofs.lemmas.Slice.Eq.{bytes_eq-Decides}
use Rattle.mr_geom.specs.Rectangle.{Rectangle}
use Rattle.mr_record.specs.Record.{rectangle_bytes}
use Rattle.mr_record.specs.declared.version.Version.{Version}
use Rattle.mr_record.specs.declared.record.Record.{Record}
use Rattle.mr_proof.specs.declared.head.Kind.{Kind}
use Rattle.mr_proof.specs.declared.head.Head.{Head}
use Rattle.mr_proof.specs.declared.pruned_entry.PrunedEntry.{PrunedEntry}
use Rattle.mr_proof.specs.declared.rule.Fault.{Fault}
use Rattle.mr_proof.specs.Cut.{Cut}
use Rattle.mr_proof.specs.Spelling.{cut_bytes}

-- a single byte
pub single : (raw : List ℕ) → length raw ≡ 1 → raw ≡ slice_index raw 0 ∷ []
single [] e = absurd (omega arith)
single (b ∷ []) e = refl
single (b ∷ c ∷ rest) e = absurd (omega arith)

pub same_bytes : (xs ys : List ℕ) → bytes_eq xs ys ≡ true → xs ≡ ys
same_bytes xs ys t = (bytes_eq-Decides xs ys).0 t

pub bytes_same : (xs ys : List ℕ) → xs ≡ ys → bytes_eq xs ys ≡ true
bytes_same xs ys e = (bytes_eq-Decides xs ys).1 e

pub word_long : (n : ℕ) → length (to_be_bytes w64 n) ≡ 8
word_long n = refl

pub wide_long : (n : ℕ) → length (to_be_bytes w128 n) ≡ 16
wide_long n = refl

pub rectangle_long : (r : Rectangle) → length (rectangle_bytes r) ≡ 16
unfolding rectangle_bytes
rectangle_long r = refl

-- ---- values of their parts

abbrev pub record_of : (number : ℕ) → Rectangle → (layer : ℕ) → List ℕ → Record
record_of n r i p = record { number = n; rect = r; layer = i; payload = p }

abbrev pub part_of : Rectangle → (mask count : ℕ) → List ℕ → PrunedEntry
part_of r m c d = record { rect = r; mask = m; count = c; digest = d }

abbrev pub head_of : Version → Kind → (batch count : ℕ) → Option ℕ → ℕ → Head
head_of v k b c r l = record { version = v; kind = k; batch = b; count = c; radius = r; level = l }

-- what stands behind the tag of an item
abbrev pub tail : Version → Cut → List ℕ
tail v P = drop 1 (cut_bytes v P)

-- ---- results

abbrev ok : {A : Type 0} → A → Result A Fault
ok x = Ok x

pub same_value : {A : Type 0} (x y : A) → ok x ≡ ok y → x ≡ y
same_value x y e = cc

abbrev pub failed : {A : Type 0} → Fault → Result A Fault
failed f = Err f

pub same_fault : {A : Type 0} (f g : Fault) → failed {A = A} f ≡ failed g → f ≡ g
same_fault f g e = cc
