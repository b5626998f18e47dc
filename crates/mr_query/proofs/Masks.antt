-- Masks as sets of layers.
use Rattle.std.proofs.Common.{◌≡◌, ◌≢◌, ℕ, ◌-◌, ◌/◌, ◌%◌, ◌^◌, ◌<◌, ◌≤◌, Bool, true, false, eqb, List, [], ◌∷◌, refl, sym, ap, ◌∙◌, inl, inr, arith}
use Rattle.std.specs.Prelude.{not, fold, bit_and, bit_or}
use Rattle.std.specs.List.{AllByRecursion}
use Rattle.std.specs.Int.{bit_at}
use Rattle.std.proofs.Math.Pow.{pow-lt}
use Rattle.std.proofs.lemmas.Bool.{eqb-true, cases_lt}
use Rattle.std.proofs.lemmas.Nat.Bits.{bit_at_or, bit_at_and, bit_at-zero, bit_at_above, bit_at_ones, bit_at_ones_above, bit_at-pow_other, bit_at-lt, same_from_bits}
use Rattle.mr_query.specs.Layers.{all_layers, share_layer}

-- ---- masks

-- all layers of a mask and then another's, twice
pub or_twice : (a b : ℕ) → bit_or a (bit_or a b) ≡ bit_or a b
or_twice a b =
    same_from_bits (bit_or a (bit_or a b)) (bit_or a b)
    (λ i. omega (arith, bit_at_or a (bit_or a b) i, bit_at_or a b i))

pub or_all_layers : (x : ℕ) → x < 2 ^ 64 → bit_or x all_layers ≡ all_layers
or_all_layers x low = same_from_bits (bit_or x all_layers) all_layers (λ i. by_place i)
  where
    by_place : (i : ℕ) → bit_at (bit_or x all_layers) i ≡ bit_at all_layers i
    by_place i = elim (cases_lt i 64) [
      | inl lt ↦ omega (arith, bit_at_or x all_layers i, bit_at_ones 64 i lt, bit_at-lt x i)
      | inr past ↦ omega (arith, bit_at_or x all_layers i, bit_at_ones_above 64 i past, bit_at_above x 64 i low past)
    ]

-- the bit of a layer is one of 64
pub layer_fits : (l : ℕ) → l ≤ 63 → 2 ^ l < 2 ^ 64
layer_fits l low = let less : l < 64 = omega (arith, low) in pow-lt less

-- ---- layers that two masks share

none_shared : (a b : ℕ) → share_layer a b ≡ false → bit_and a b ≡ 0
none_shared a b e = eqb-true (bit_and a b) 0 (not_false (eqb (bit_and a b) 0) e)
  where
    not_false : (b : Bool) → not b ≡ false → b ≡ true
    not_false true e = refl
    not_false false e = absurd cc

shared_none : (a b : ℕ) → bit_and a b ≡ 0 → share_layer a b ≡ false
shared_none a b e = ap (λ n. not (eqb n 0)) e

-- what shares no layer with all of a mask shares none with some of it
pub shares_less : (a b m : ℕ) → bit_or a b ≡ b → share_layer b m ≡ false → share_layer a m ≡ false
shares_less a b m among none =
    let whole : bit_and b m ≡ 0 = none_shared b m none in
    shared_none a m (same_from_bits (bit_and a m) 0 (λ i. omega (
      arith,
      bit_at_and a m i,
      bit_at_and b m i,
      bit_at_or a b i,
      bit_at-zero i,
      ap (λ (n : ℕ). n / 2 ^ i % 2) whole,
      ap (λ (n : ℕ). n / 2 ^ i % 2) among,
    )))

-- two masks together share no layer with a third just where neither does
pub shares_neither : (a b m : ℕ) → share_layer a m ≡ false → share_layer b m ≡ false
    → share_layer (bit_or a b) m ≡ false
shares_neither a b m one other =
    let left : bit_and a m ≡ 0 = none_shared a m one in
    let right : bit_and b m ≡ 0 = none_shared b m other in
    shared_none (bit_or a b) m (same_from_bits (bit_and (bit_or a b) m) 0 (λ i. omega (
      arith,
      bit_at_and (bit_or a b) m i,
      bit_at_and a m i,
      bit_at_and b m i,
      bit_at_or a b i,
      bit_at-zero i,
      ap (λ (n : ℕ). n / 2 ^ i % 2) left,
      ap (λ (n : ℕ). n / 2 ^ i % 2) right,
    )))

pub left_shares : (a b m : ℕ) → share_layer (bit_or a b) m ≡ false → share_layer a m ≡ false
left_shares a b m none = shares_less a (bit_or a b) m (or_twice a b) none

pub right_shares : (a b m : ℕ) → share_layer (bit_or a b) m ≡ false → share_layer b m ≡ false
right_shares a b m none = shares_less b (bit_or a b) m (among_both a b) none
  where
    among_both : (a b : ℕ) → bit_or b (bit_or a b) ≡ bit_or a b
    among_both a b =
        same_from_bits (bit_or b (bit_or a b)) (bit_or a b)
        (λ i. omega (arith, bit_at_or b (bit_or a b) i, bit_at_or a b i))

none_beside : (a m : ℕ) (masks : List ℕ) → share_layer a m ≡ false
    → AllByRecursion (λ n. share_layer n m ≡ false) masks → share_layer (fold bit_or a masks) m ≡ false
none_beside a m [] none all = none
none_beside a m (n ∷ masks) none all =
    none_beside (bit_or a n) m masks (shares_neither a n m none all.0) all.1

-- all of some masks together share no layer with another where none of them does
pub none_shares : (m : ℕ) (masks : List ℕ) → AllByRecursion (λ n. share_layer n m ≡ false) masks
    → share_layer (fold bit_or 0 masks) m ≡ false
none_shares m masks all = none_beside 0 m masks refl all

each_beside : (a m : ℕ) (masks : List ℕ) → share_layer (fold bit_or a masks) m ≡ false
    → (share_layer a m ≡ false) × AllByRecursion (λ n. share_layer n m ≡ false) masks
each_beside a m [] none = (none, tt)
each_beside a m (n ∷ masks) none =
    let rest = each_beside (bit_or a n) m masks none in
    (left_shares a n m rest.0, (right_shares a n m rest.0, rest.1))

-- and only there
pub each_shares_none : (m : ℕ) (masks : List ℕ) → share_layer (fold bit_or 0 masks) m ≡ false
    → AllByRecursion (λ n. share_layer n m ≡ false) masks
each_shares_none m masks none = (each_beside 0 m masks none).1

-- a layer above all of a mask
pub above_all : (l m : ℕ) → 63 < l → m < 2 ^ 64 → share_layer (2 ^ l) m ≡ false
above_all l m high low = shared_none (2 ^ l) m (same_from_bits (bit_and (2 ^ l) m) 0 (λ i. by_place i))
  where
    by_place : (i : ℕ) → bit_at (bit_and (2 ^ l) m) i ≡ bit_at 0 i
    by_place i = elim (cases_lt i 64) [
      | inl lt ↦
          omega (arith, bit_at_and (2 ^ l) m i, bit_at-zero i, bit_at-pow_other l i (λ e. omega (arith, e, lt, high)))
      | inr past ↦ omega (arith, bit_at_and (2 ^ l) m i, bit_at-zero i, bit_at_above m 64 i low past)
    ]
