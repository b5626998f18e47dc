-- The records that the choice of those inside a window takes whole are those inside it.
use Rattle.std.proofs.Common.{◌≡◌, ℕ, ◌^◌, Bool, true, false, List, [], ◌∷◌, length, refl, sym, ap, ◌∙◌, inl, inr, arith}
use Rattle.std.specs.Prelude.{filter, not, ◌&&◌, bit_and, bit_or}
use Rattle.std.specs.Int.{bit_at}
use Rattle.std.specs.List.{AllByRecursion}
use Rattle.std.proofs.lemmas.Bool.{cases_eq, false≢true, eq-eqb}
use Rattle.std.proofs.lemmas.Nat.{pow_pos}
use Rattle.std.proofs.lemmas.Nat.Bits.{bit_at_or, bit_at_and, bit_at-zero, bit_at-pow_same, bit_at-pow_other, same_from_bits}
use Rattle.std.proofs.lemmas.List.Elements.{recursion_from_All}
use Rattle.mr_geom.specs.Rectangle.{Rectangle, IsOrdered}
use Rattle.mr_geom.specs.Plane.{touches}
use Rattle.mr_record.specs.Record.{IsRecord}
use Rattle.mr_record.specs.declared.record.Record.{Record}
use Rattle.mr_tree.specs.Tree.{records}
use Rattle.mr_tree.specs.Digest.{Scheme}
use Rattle.mr_query.specs.Layers.{share_layer, layer_mask}
use Rattle.mr_proof.specs.declared.head.Kind.TheVariants as kind
use Rattle.mr_proof.specs.Clash.{clash_of}
use Rattle.mr_proof.proofs.SameNodes.{none_more}
use Rattle.mr_check.specs.Whole.{is_whole}
use Rattle.mr_count.specs.Chosen.{takes_whole, number_whole, total_whole}
use Rattle.mr_count.specs.Inside.{lies_in, has_only, inside_way, is_inside, count_inside}
use Rattle.mr_count.specs.Accepted.{IsHonestChoice, AcceptedChoiceIsHonest, AcceptedCountIsTrue}
use Rattle.mr_count.specs.private.InsideLaws.{way_by, only_shares, lies_touches}

-- ---- one layer is among others just where it shares one with them

not_shared : (l m : ℕ) → bit_at m l ≡ 0 → bit_and (2 ^ l) m ≡ 0
not_shared l m none = same_from_bits (bit_and (2 ^ l) m) 0 (λ i. by_place i)
  where
    by_place : (i : ℕ) → bit_at (bit_and (2 ^ l) m) i ≡ bit_at 0 i
    by_place i = elim (cases_eq i l) [
      | inl e ↦ omega (arith, bit_at_and (2 ^ l) m i, bit_at-zero i, ap (λ (k : ℕ). bit_at m k) e, none)
      | inr ne ↦ omega (arith, bit_at_and (2 ^ l) m i, bit_at-zero i, bit_at-pow_other l i ne)
    ]

has_bit : (l m : ℕ) → share_layer (2 ^ l) m ≡ true → bit_at m l ≡ 1
has_bit l m shared = elim (cases_eq (bit_at m l) 0) [
  | inl none ↦
      let off : share_layer (2 ^ l) m ≡ false = ap not (eq-eqb (bit_and (2 ^ l) m) 0 (not_shared l m none)) in
      absurd (false≢true (sym off ∙ shared))
  | inr some ↦ one_bit some
]
  where
    one_bit : (bit_at m l ≡ 0 → ⊥) → bit_at m l ≡ 1
    one_bit some = omega (arith, some)

shared_only : (l m : ℕ) → share_layer (2 ^ l) m ≡ true → has_only (2 ^ l) m ≡ true
shared_only l m shared =
    eq-eqb (bit_or (2 ^ l) m) m (same_from_bits (bit_or (2 ^ l) m) m (λ i. by_place i))
  where
    by_place : (i : ℕ) → bit_at (bit_or (2 ^ l) m) i ≡ bit_at m i
    by_place i = elim (cases_eq i l) [
      | inl e ↦
          let here : bit_at m i ≡ 1 = ap (λ (k : ℕ). bit_at m k) e ∙ has_bit l m shared in
          let own : bit_at (2 ^ l) i ≡ 1 = ap (λ (k : ℕ). bit_at (2 ^ l) k) e ∙ bit_at-pow_same l in
          omega (arith, bit_at_or (2 ^ l) m i)
      | inr ne ↦ omega (arith, bit_at_or (2 ^ l) m i, bit_at-pow_other l i ne)
    ]

same_test : (p q : Bool) → (p ≡ true → q ≡ true) → (q ≡ true → p ≡ true) → p ≡ q
same_test true q up down = sym (up refl)
same_test false true up down = down refl
same_test false false up down = refl

only_is_shared : (l m : ℕ) → has_only (2 ^ l) m ≡ share_layer (2 ^ l) m
only_is_shared l m =
    same_test (has_only (2 ^ l) m) (share_layer (2 ^ l) m) (only_shares (2 ^ l) m (pow_pos l)) (shared_only l m)

-- ---- one record

whole_by : (m s l : Bool) → (l ≡ true → m ≡ true) → is_whole (way_by (m && s) (l && s)) ≡ (l && s)
whole_by true true true up = refl
whole_by true true false up = refl
whole_by true false true up = refl
whole_by true false false up = refl
whole_by false s true up = absurd (false≢true (up refl))
whole_by false true false up = refl
whole_by false false false up = refl

whole_is_inside : (w : Rectangle) (layers : ℕ) (r : Record) → IsOrdered r.rect
    → takes_whole (inside_way w layers) r ≡ is_inside w layers r
whole_is_inside w layers r o =
    let m = touches w r.rect in
    let s = share_layer (layer_mask r) layers in
    let l = lies_in r.rect w in
    ap (λ (only : Bool). is_whole (way_by (m && s) (l && only))) (only_is_shared r.layer layers)
    ∙ whole_by m s l (lies_touches r.rect w o)

-- ---- all of them

same_number : (p q : Record → Bool) (rs : List Record) → AllByRecursion (λ r. p r ≡ q r) rs
    → length (filter p rs) ≡ length (filter q rs)
same_number p q [] all = refl
same_number p q (r ∷ rs) all = by_test (q r) refl (same_number p q rs all.1)
  where
    by_test : (b : Bool) → q r ≡ b → length (filter p rs) ≡ length (filter q rs)
        → length (filter p (r ∷ rs)) ≡ length (filter q (r ∷ rs))
    by_test true e rest = let own : p r ≡ true = all.0 ∙ e in rw (own, e) (omega arith)
    by_test false e rest = let own : p r ≡ false = all.0 ∙ e in rw (own, e) rest

tests : (w : Rectangle) (layers : ℕ) (rs : List Record) → AllByRecursion IsRecord rs
    → AllByRecursion (λ r. takes_whole (inside_way w layers) r ≡ is_inside w layers r) rs
tests w layers [] all = tt
tests w layers (r ∷ rs) all = (whole_is_inside w layers r all.0.ordered, tests w layers rs all.1)

pub number_inside : (w : Rectangle) (layers : ℕ) (rs : List Record) → AllByRecursion IsRecord rs
    → number_whole (inside_way w layers) rs ≡ count_inside w layers rs
number_inside w layers rs all =
    same_number (takes_whole (inside_way w layers)) (is_inside w layers) rs (tests w layers rs all)

-- so what accepted bytes count is how many there are
pub count_true : (s : Scheme) (letter : ℕ) (w : Rectangle) (layers : ℕ) (bytes : List ℕ)
    → AcceptedChoiceIsHonest s letter (inside_way w layers) bytes → AcceptedCountIsTrue s letter w layers bytes
count_true s letter w layers bytes honest = λ t b x well layered low e.
    let way = inside_way w layers in
    none_more s.of (clash_of (kind.Choice letter) s t b bytes) (IsHonestChoice s t b letter way bytes x)
    (total_whole way x ≡ count_inside w layers (records t)) (honest t b x well layered low e)
    (λ o. o.given.whole ∙ number_inside w layers (records t) (recursion_from_All IsRecord (records t) well.each))
