-- Words, rectangles and records with one spelling are one.
use Rattle.std.proofs.Common.{◌≡◌, ℕ, ◌<◌, ◌^◌, List, [], ◌∷◌, ◌++◌, length, take, drop, Result, Ok, refl, sym, ap, ◌∙◌, arith}
use Rattle.std.specs.List.{flat_map, AllByRecursion}
use Rattle.std.specs.Int.{w64, to_be_bytes, from_be_bytes}
use Rattle.std.proofs.lemmas.List.{take_at, drop_at}
use Rattle.std.proofs.lemmas.Nat.{from_be_bytes-to_be_bytes_8}
use Rattle.mr_geom.specs.Rectangle.{Rectangle, FitsMap}
use Rattle.mr_record.specs.Record.{IsRecord, HasLayer, record_bytes, rectangle_bytes, sides_of}
use Rattle.mr_record.specs.declared.version.Version.{Version}
use Rattle.mr_record.specs.RecordField.{record_in}
use Rattle.mr_record.specs.declared.record.Record.{Record}
use Rattle.mr_record.specs.declared.record_fault.RecordFault.{RecordFault}
use Rattle.mr_record.proofs.Encodings.{sides_again}
use Rattle.mr_record.proofs.RecordFields.{record_again}

-- fronts of one length, and what follows them
pub record Fronts (a b x y : List ℕ) : Type 0 where
  pub front : a ≡ b
  pub rest : x ≡ y

pub fronts : (a b x y : List ℕ) → length a ≡ length b → a ++ x ≡ b ++ y → Fronts a b x y
fronts a b x y long e = record {
  front = sym (take_at a x (length a) refl) ∙ ap (take (length a)) e ∙ take_at b y (length a) (sym long);
  rest = sym (drop_at a x (length a) refl) ∙ ap (drop (length a)) e ∙ drop_at b y (length a) (sym long);
}

pub cons_parts : (m n : ℕ) (x y : List ℕ) → m ∷ x ≡ n ∷ y → (m ≡ n) × (x ≡ y)
cons_parts m n x y e = (cc, cc)

pub same_word : (m n : ℕ) → m < 2 ^ 64 → n < 2 ^ 64 → to_be_bytes w64 m ≡ to_be_bytes w64 n → m ≡ n
same_word m n p q e = sym (from_be_bytes-to_be_bytes_8 m p) ∙ ap (from_be_bytes w64) e ∙ from_be_bytes-to_be_bytes_8 n q

pub same_rectangle : (r s : Rectangle) → FitsMap r → FitsMap s → rectangle_bytes r ≡ rectangle_bytes s → r ≡ s
same_rectangle r s p q e = sym (sides_again r p) ∙ ap sides_of e ∙ sides_again s q

-- ---- records

abbrev read : Record × ℕ → Result (Record × ℕ) RecordFault
read p = Ok p

same_read : (p o : Record × ℕ) → read p ≡ read o → p ≡ o
same_read p o e = cc

pub record SameRecord (r s : Record) (x y : List ℕ) : Type 0 where
  pub one : r ≡ s
  pub rest : x ≡ y

module _ (v : Version) where
  pub same_record : (r s : Record) (x y : List ℕ) → IsRecord r → HasLayer v r → IsRecord s → HasLayer v s
      → record_bytes v r ++ x ≡ record_bytes v s ++ y → SameRecord r s x y
  same_record r s x y fit low fine flat e =
      let both : (r, length (record_bytes v r)) ≡ (s, length (record_bytes v s)) =
      same_read (r, length (record_bytes v r)) (s, length (record_bytes v s))
      (sym (record_again v r x fit low) ∙ ap (record_in v) e ∙ record_again v s y fine flat) in
      record {
        one = ap (λ (p : Record × ℕ). p.0) both;
        rest = (fronts (record_bytes v r) (record_bytes v s) x y (ap (λ (p : Record × ℕ). p.1) both) e).rest;
      }

  pub same_records : (rs ss : List Record) → AllByRecursion IsRecord rs → AllByRecursion (HasLayer v) rs
      → AllByRecursion IsRecord ss → AllByRecursion (HasLayer v) ss → length rs ≡ length ss
      → flat_map (record_bytes v) rs ≡ flat_map (record_bytes v) ss → rs ≡ ss
  same_records [] [] p k q l long e = refl
  same_records [] (s ∷ ss) p k q l long e = absurd (omega arith)
  same_records (r ∷ rs) [] p k q l long e = absurd (omega arith)
  same_records (r ∷ rs) (s ∷ ss) p k q l long e =
      let here = same_record r s (flat_map (record_bytes v) rs) (flat_map (record_bytes v) ss) p.0 k.0 q.0 l.0 e in
      let rest = same_records rs ss p.1 k.1 q.1 l.1 (omega arith) here.rest in
      λ i. here.one i ∷ rest i
