-- Masks as sets of bits: all bits of some masks, and bits that two masks share.
use Rattle.std.proofs.Common.{◌≡◌, ℕ, ◌/◌, ◌%◌, ◌^◌, List, [], ◌∷◌, ◌++◌, sym, ap, ◌∙◌, arith}
use Rattle.std.specs.Prelude.{fold, bit_or, bit_and}
use Rattle.std.proofs.lemmas.Nat.Bits.{bit_at_or, bit_at_and, bit_at-zero, same_from_bits}
use Rattle.std.proofs.lemmas.Nat.{or_comm}
use Rattle.std.proofs.lemmas.List.Sums.{fold-append}
use Rattle.mr_tree.specs.Tree.{mask_of}

pub or_assoc : (a b c : ℕ) → bit_or (bit_or a b) c ≡ bit_or a (bit_or b c)
or_assoc a b c = same_from_bits (bit_or (bit_or a b) c) (bit_or a (bit_or b c)) (λ i. omega (
  arith,
  bit_at_or (bit_or a b) c i,
  bit_at_or a b i,
  bit_at_or a (bit_or b c) i,
  bit_at_or b c i,
))

or_none : (a : ℕ) → a ≡ bit_or a 0
or_none a = sym (or_comm a 0)

fold_or : (a : ℕ) (ms : List ℕ) → fold bit_or a ms ≡ bit_or a (mask_of ms)
fold_or a [] = or_none a
fold_or a (m ∷ ms) = fold_or (bit_or a m) ms ∙ or_assoc a m (mask_of ms) ∙ ap (bit_or a) (sym (fold_or m ms))

pub mask_of-append : (ms ns : List ℕ) → mask_of (ms ++ ns) ≡ bit_or (mask_of ms) (mask_of ns)
mask_of-append ms ns = fold-append bit_or 0 ms ns ∙ fold_or (mask_of ms) ns

pub mask_of-cons : (m : ℕ) (ms : List ℕ) → mask_of (m ∷ ms) ≡ bit_or m (mask_of ms)
mask_of-cons m ms = fold_or m ms

-- what shares no bit with all of them shares none with one
pub shares_less : (a b q : ℕ) → bit_and (bit_or a b) q ≡ 0 → bit_and a q ≡ 0
shares_less a b q none = same_from_bits (bit_and a q) 0 (λ i. omega (
  arith,
  bit_at_and a q i,
  bit_at_and (bit_or a b) q i,
  bit_at_or a b i,
  bit_at-zero i,
  ap (λ (n : ℕ). n / 2 ^ i % 2) none,
))
