-- A record of which a piece has the whole.
use Rattle.std.proofs.Common.{◌≡◌, ℕ, ◌-◌, ◌+◌, ◌<◌, ◌≤◌, false, eqb, ltb, List, [], ◌∷◌, ◌++◌, length, take, drop, Ok, refl, sym, ap, subst, ◌∙◌, append_assoc, arith}
use Rattle.std.specs.Prelude.{if◌then◌else◌, ◌==◌}
use Rattle.std.specs.Int.{w64, to_be_bytes}
use Rattle.std.proofs.lemmas.Bool.{ne_eqb, le-ltb}
use Rattle.std.proofs.lemmas.List.{append-nil, length-append, take-append-le, drop-append-le, take_all, drop_all, length-take-le}
use Rattle.std.proofs.Math.Seq.{take-append-add}
use Rattle.mr_geom.specs.Rectangle.{Rectangle}
use Rattle.mr_record.specs.Record.{IsRecord, HasLayer, rectangle_bytes, layer_bytes, record_bytes}
use Rattle.mr_record.specs.RecordField.{length_place}
use Rattle.mr_record.specs.Version.{told}
use Rattle.mr_record.specs.declared.version.Version.{Version}
use Rattle.mr_record.specs.declared.version.Version.TheVariants.{One, Two}
use Rattle.mr_record.proofs.RecordFields.{length-layer_bytes, length-record_bytes}
use Rattle.mr_record.specs.declared.record.Record.{Record}
use Rattle.mr_proof.specs.declared.want.Want.{Want}
use Rattle.mr_proof.specs.declared.want.Want.TheVariants as want
use Rattle.mr_proof.specs.declared.field.Field.{Field}
use Rattle.mr_proof.specs.declared.field.Field.TheVariants as field
use Rattle.mr_proof.specs.Limits.{place_limit}
use Rattle.mr_proof.specs.Fields.{size_of, field_of}
use Rattle.mr_proof.specs.Spelling.{Parsed}
use Rattle.mr_proof.specs.Grammar.{Grammar, reads, number_in, rect_in, bytes_in}
use Rattle.mr_proof.specs.Layout.{Cursor, field_at}
use Rattle.mr_proof.specs.Handed.{handed}
use Rattle.mr_proof.proofs.Values.{word_long, rectangle_long}
use Rattle.mr_proof.proofs.FieldValues.{number_value, rect_value, layer_value, length_value, payload_value}
use Rattle.mr_check.specs.private.Stops.{stop}
use Rattle.mr_check.specs.private.Machine.{behind_number, behind_sides, behind_layer, behind_length}
use Rattle.mr_check.specs.private.Reads.{last_field}
use Rattle.mr_check.proofs.Noting.{short_handed}

abbrev pub stand : ℕ → ℕ → List ℕ → Cursor
stand at last rest = record { at = at; last = last; rest = rest }

-- reading goes on in the second grammar from the second place
pub record On {A : Type 0} (g : Grammar A) (s : Cursor) (k : Grammar A) (t : Cursor) : Type 0 where
  pub stops : stop g s ≡ stop k t
  pub hands : handed g s ≡ handed k t

pub on_both : {A : Type 0} (f g h : Grammar A) (s t u : Cursor) → On f s g t → On g t h u → On f s h u
on_both f g h s t u a b = record { stops = a.stops ∙ b.stops; hands = a.hands ∙ b.hands }

-- a field whose bytes stand in front
pub field_on : {A : Type 0} (w : Want) (next : Field → Grammar A) (at last : ℕ) (raw rest : List ℕ) (v : Field)
    → length raw ≡ size_of w → at + size_of w ≤ place_limit → field_of w raw ≡ Ok v
    → On (reads w next) (stand at last (raw ++ rest)) (next v) (stand (at + size_of w) at rest)
unfolding field_at
field_on w next at last raw rest v long within is =
    let fits : ltb place_limit (at + size_of w) ≡ false = le-ltb place_limit (at + size_of w) within in
    let enough : ltb (length (raw ++ rest)) (size_of w) ≡ false = le-ltb (length (raw ++ rest)) (size_of w)
    (omega (arith, length-append raw rest)) in
    let front : take (size_of w) (raw ++ rest) ≡ raw = take-append-le (size_of w) raw rest (omega arith)
    ∙ take_all (size_of w) raw (omega arith) in
    let back : drop (size_of w) (raw ++ rest) ≡ rest = drop-append-le (size_of w) raw rest (omega arith)
    ∙ ap (λ (x : List ℕ). x ++ rest) (drop_all (size_of w) raw (omega arith)) in
    record {
      stops = rw (fits, enough, front, is) (ap (λ (r : List ℕ). stop (next v) (stand (at + size_of w) at r)) back);
      hands = rw (fits, enough, front, is) (ap (λ (r : List ℕ). handed (next v) (stand (at + size_of w) at r)) back);
    }

-- ---- the fields of a record

-- number and rectangle
sides_on : (u : Version) (X : Record → Grammar Parsed) (r : Record) (at last : ℕ) (rest : List ℕ) → IsRecord r
    → at + 24 ≤ place_limit
    → On (reads want.Number (λ v. behind_number u X (number_in v)))
    (stand at last (to_be_bytes w64 r.number ++ (rectangle_bytes r.rect ++ rest)))
    (behind_sides u X r.number r.rect) (stand (at + 24) (at + 8) rest)
sides_on u X r at last rest is within =
    let one = field_on want.Number (λ v. behind_number u X (number_in v)) at last (to_be_bytes w64 r.number)
    (rectangle_bytes r.rect ++ rest) (field.Num r.number) (word_long r.number) (omega arith)
    (number_value r.number is.number) in
    let two = field_on want.Rect (λ x. behind_sides u X r.number (rect_in x)) (at + 8) at (rectangle_bytes r.rect) rest
    (field.Rect r.rect) (rectangle_long r.rect) (omega arith) (rect_value r.rect is.ordered is.coordinates) in
    let place : (at + 8) + 16 ≡ at + 24 = omega arith in
    subst (λ (n : ℕ). On (reads want.Number (λ v. behind_number u X (number_in v)))
    (stand at last (to_be_bytes w64 r.number ++ (rectangle_bytes r.rect ++ rest)))
    (behind_sides u X r.number r.rect) (stand n (at + 8) rest)) place
    (on_both _ _ _ _ _ _ one two)

-- the layer, where the version spells it, and the place of the last field behind it
abbrev layer_last : Version → ℕ → ℕ → ℕ
layer_last One at last = last
layer_last Two at last = at

layer_on : (u : Version) (X : Record → Grammar Parsed) (r : Record) (at last : ℕ) (rest : List ℕ) → HasLayer u r
    → at + told u 1 ≤ place_limit
    → On (behind_sides u X r.number r.rect) (stand at last (layer_bytes u r.layer ++ rest))
    (behind_layer X r.number r.rect r.layer) (stand (at + told u 1) (layer_last u at last) rest)
layer_on One X r at last rest low within =
    let flat : 0 ≡ r.layer = omega arith in
    let same : at ≡ at + 0 = omega arith in
    record {
      stops = λ i. stop (behind_layer X r.number r.rect (flat i)) (stand (same i) last rest);
      hands = λ i. handed (behind_layer X r.number r.rect (flat i)) (stand (same i) last rest);
    }
layer_on Two X r at last rest low within =
    field_on want.Layer (λ v. behind_layer X r.number r.rect (number_in v)) at last (r.layer ∷ []) rest
    (field.Num r.layer) refl within (layer_value r.layer low)

-- the length
length_on : (X : Record → Grammar Parsed) (n : ℕ) (x : Rectangle) (y l at last : ℕ) (rest : List ℕ) → l ≤ 200
    → at + 1 ≤ place_limit
    → On (behind_layer X n x y) (stand at last (l ∷ rest)) (behind_length X n x y l) (stand (at + 1) at rest)
length_on X n x y l at last rest few within =
    field_on want.Length (λ v. behind_length X n x y (number_in v)) at last (l ∷ []) rest (field.Num l) refl within
    (length_value l few)

-- the place of the last field, where the payload would stand here and the length stood there
abbrev last_of : List ℕ → ℕ → ℕ → ℕ
last_of p at last = if length p == 0 then last else at

-- the payload
payload_on : (X : Record → Grammar Parsed) (n : ℕ) (x : Rectangle) (y : ℕ) (p : List ℕ) (at last : ℕ)
    → at + length p ≤ place_limit
    → On (behind_length X n x y (length p)) (stand at last p)
    (X (record { number = n; rect = x; layer = y; payload = p }))
    (stand (at + length p) (last_of p at last) [])
payload_on X n x y [] at last within =
    let same : at ≡ at + 0 = omega arith in
    let r : Record = record { number = n; rect = x; layer = y; payload = [] } in
    record {
      stops = ap (λ (k : ℕ). stop (X r) (stand k last [])) same;
      hands = ap (λ (k : ℕ). handed (X r) (stand k last [])) same;
    }
payload_on X n x y (b ∷ p) at last within =
    let l = length (b ∷ p) in
    let some : eqb l 0 ≡ false = ne_eqb l 0 (λ e. omega arith) in
    let next = λ (f : Field). X (record { number = n; rect = x; layer = y; payload = bytes_in f }) in
    let here : behind_length X n x y l ≡ reads (want.Payload l) next = rw some refl in
    let place : at ≡ last_of (b ∷ p) at last = rw some refl in
    let whole : (b ∷ p) ++ [] ≡ b ∷ p = append-nil (b ∷ p) in
    let one = field_on (want.Payload l) next at last (b ∷ p) [] (field.Payload (b ∷ p)) refl within
    (payload_value l (b ∷ p)) in
    let all : On (reads (want.Payload l) next) (stand at last (b ∷ p)) (next (field.Payload (b ∷ p)))
    (stand (at + l) at []) = subst (λ (raw : List ℕ). On (reads (want.Payload l) next) (stand at last raw)
    (next (field.Payload (b ∷ p))) (stand (at + l) at [])) whole one in
    subst (λ (g : Grammar Parsed). On g (stand at last (b ∷ p)) (next (field.Payload (b ∷ p)))
    (stand (at + l) (last_of (b ∷ p) at last) [])) (sym here)
    (subst (λ (k : ℕ). On (reads (want.Payload l) next) (stand at last (b ∷ p)) (next (field.Payload (b ∷ p)))
    (stand (at + l) k [])) place all)

-- ---- all of them

record_parts : (u : Version) (r : Record)
    → record_bytes u r ≡ to_be_bytes w64 r.number
    ++ (rectangle_bytes r.rect ++ (layer_bytes u r.layer ++ (length r.payload ∷ r.payload)))
unfolding record_bytes
record_parts u r =
    let number = to_be_bytes w64 r.number in
    let place = rectangle_bytes r.rect in
    let rest = length r.payload ∷ r.payload in
    append_assoc (number ++ place) (layer_bytes u r.layer) rest
    ∙ append_assoc number place (layer_bytes u r.layer ++ rest)

pub record_long : (u : Version) (r : Record) → length (record_bytes u r) ≡ length_place u + 1 + length r.payload
record_long u r = length-record_bytes u r

-- with all of its bytes the record is read
pub record_on : (u : Version) (X : Record → Grammar Parsed) (r : Record) (at last : ℕ) → IsRecord r → HasLayer u r
    → at + length (record_bytes u r) ≤ place_limit
    → On (reads want.Number (λ v. behind_number u X (number_in v))) (stand at last (record_bytes u r)) (X r)
    (stand (at + length (record_bytes u r)) (last_field u at r) [])
record_on u X r at last is low within =
    let p = r.payload in
    let l = length p in
    let long = record_long u r in
    let sized_at = (at + 24) + told u 1 in
    let front = sides_on u X r at last (layer_bytes u r.layer ++ (l ∷ p)) is (omega (arith, long)) in
    let layered = layer_on u X r (at + 24) (at + 8) (l ∷ p) low (omega (arith, long)) in
    let sized = length_on X r.number r.rect r.layer l sized_at (layer_last u (at + 24) (at + 8)) p is.payload
    (omega (arith, long)) in
    let paid = payload_on X r.number r.rect r.layer p (sized_at + 1) sized_at (omega (arith, long)) in
    let ends : (sized_at + 1) + l ≡ at + length (record_bytes u r) = omega (arith, long) in
    let there : sized_at ≡ at + length_place u = omega arith in
    let g = reads want.Number (λ v. behind_number u X (number_in v)) in
    let raw = to_be_bytes w64 r.number ++ (rectangle_bytes r.rect ++ (layer_bytes u r.layer ++ (l ∷ p))) in
    let all : On g (stand at last raw) (X r) (stand ((sized_at + 1) + l) (last_of p (sized_at + 1) sized_at) []) =
    on_both _ _ _ _ _ _ front (on_both _ _ _ _ _ _ layered (on_both _ _ _ _ _ _ sized paid)) in
    subst (λ (bytes : List ℕ). On g (stand at last bytes) (X r)
    (stand (at + length (record_bytes u r)) (last_field u at r) [])) (sym (record_parts u r))
    (subst (λ (z : ℕ × ℕ). On g (stand at last raw) (X r) (stand z.0 (last_of p (z.1 + 1) z.1) []))
    (λ i. (ends i, there i)) all)

-- without the last of its bytes it is not
quiet_tail : (X : Record → Grammar Parsed) (n : ℕ) (x : Rectangle) (y : ℕ) (p : List ℕ) (at last : ℕ)
    → length p ≤ 200
    → at + 1 ≤ place_limit → handed (behind_layer X n x y) (stand at last (take (length p) (length p ∷ p))) ≡ []
quiet_tail X n x y [] at last few within =
    short_handed want.Length (λ v. behind_length X n x y (number_in v)) (stand at last []) (omega arith)
quiet_tail X n x y (b ∷ p) at last few within =
    let l = length (b ∷ p) in
    let some : eqb l 0 ≡ false = ne_eqb l 0 (λ e. omega arith) in
    let next = λ (f : Field). X (record { number = n; rect = x; layer = y; payload = bytes_in f }) in
    let here : behind_length X n x y l ≡ reads (want.Payload l) next = rw some refl in
    let rest = take (length p) (b ∷ p) in
    let short : length rest < l = omega (arith, length-take-le (length p) (b ∷ p) (omega arith)) in
    (length_on X n x y l at last rest few within).hands
    ∙ ap (λ (g : Grammar Parsed). handed g (stand (at + 1) at rest)) here
    ∙ short_handed (want.Payload l) next (stand (at + 1) at rest) short

pub quiet_on : (u : Version) (X : Record → Grammar Parsed) (r : Record) (at last : ℕ) → IsRecord r → HasLayer u r
    → at + length (record_bytes u r) ≤ place_limit
    → handed (reads want.Number (λ v. behind_number u X (number_in v)))
    (stand at last (take (length (record_bytes u r) - 1) (record_bytes u r))) ≡ []
quiet_on u X r at last is low within =
    let p = r.payload in
    let l = length p in
    let number = to_be_bytes w64 r.number in
    let place = rectangle_bytes r.rect in
    let layer = layer_bytes u r.layer in
    let rest = take l (l ∷ p) in
    let long = record_long u r in
    let size : length (record_bytes u r) - 1 ≡ length number + (length place + (length layer + l)) = omega
    (arith, long, word_long r.number, rectangle_long r.rect, length-layer_bytes u r.layer) in
    let raw : take (length (record_bytes u r) - 1) (record_bytes u r) ≡ number ++ (place ++ (layer ++ rest)) =
    (λ i. take (size i) (record_parts u r i))
    ∙ take-append-add number (place ++ (layer ++ (l ∷ p))) (length place + (length layer + l))
    ∙ ap (λ (x : List ℕ). number ++ x) (take-append-add place (layer ++ (l ∷ p)) (length layer + l)
    ∙ ap (λ (x : List ℕ). place ++ x) (take-append-add layer (l ∷ p) l)) in
    ap (λ (bytes : List ℕ). handed (reads want.Number (λ v. behind_number u X (number_in v))) (stand at last bytes)) raw
    ∙ (sides_on u X r at last (layer ++ rest) is (omega (arith, long))).hands
    ∙ (layer_on u X r (at + 24) (at + 8) rest low (omega (arith, long))).hands
    ∙ quiet_tail X r.number r.rect r.layer p ((at + 24) + told u 1) (layer_last u (at + 24) (at + 8)) is.payload
    (omega (arith, long))
