-- Comparisons of natural numbers that stand for whole ones, and the orders in which something is best.
use mir.Syntax.{w128}
use mir.Val.{to_z, of_z, SFits}
use lib.Signed.{lt_z}
use Rattle.std.proofs.Common.{◌≡◌, ℕ, ◌+◌, ◌-◌, ◌<◌, ◌≤◌, suc, zero, Bool, true, false, List, ◌∷◌, length, get_or, sym, ap, subst, ◌∙◌, arith}
use Rattle.std.specs.Prelude.{ℤ, pos, nat_lt, if◌then◌else◌, Option}
use Rattle.std.specs.List.{fold, range_with_len}
use Rattle.std.specs.Ordering.{is_lt, int_cmp, nat_cmp}
use Rattle.std.specs.Cmp.{IsStrictWeakOrder, then_total, on_total, int_cmp_total}
use Rattle.std.proofs.lemmas.Bool.Decides.{nat_tests}
use Rattle.std.proofs.lemmas.Int.{ints}
use Rattle.std.proofs.lemmas.List.{get_or_default}
use Rattle.std.proofs.lemmas.List.MinMax.{ranks_by, IsStrictWeakOrder-flip, IsStrictWeakOrder-by_number}
use Rattle.mr_geom.specs.Rectangle.{Rectangle, area}
use Rattle.mr_split.specs.Best.{best, better, positions}
use Rattle.mr_split.specs.Choice.{rect_at, origin, growth, is_fitter, is_fitter_at}
use Rattle.mr_split.specs.Seeds.{waste, wastes_more}
use Rattle.mr_split.specs.Split.{is_more_urgent, mark_at, urgency}
use Rattle.mr_split.specs.declared.mark.Mark.{Mark}
use Rattle.mr_split.specs.declared.seeds.Pair.{Pair}
use Rattle.mr_split.proofs.Champion.{best_is, at_end, go_on}

pub compared : (a b : ℕ) → nat_cmp a b ≡ int_cmp (pos a) (pos b)
compared a b = grind (arith, nat_tests, ints)

pub compared_as : (a b : ℕ) (x y : ℤ) → pos a ≡ x → pos b ≡ y → nat_cmp a b ≡ int_cmp x y
compared_as a b x y p q = compared a b ∙ (λ i. int_cmp (p i) (q i))

-- ---- orders

pub fitter_order : (list : List Rectangle) (new : Rectangle) → IsStrictWeakOrder (is_fitter_at list new)
unfolding is_fitter
fitter_order list new =
    ranks_by (then_total (on_total (λ (i : ℕ). growth (rect_at list i) new) int_cmp_total)
    (on_total (λ (i : ℕ). area (rect_at list i)) int_cmp_total)) (λ (i : ℕ). i)

pub waste_order : (list : List Rectangle) → IsStrictWeakOrder (wastes_more list)
waste_order list = IsStrictWeakOrder-flip (λ p q. is_lt (int_cmp (waste list p) (waste list q)))
    (ranks_by int_cmp_total (waste list))

pub urgency_order : (list : List Rectangle) (marks : List Mark) (f s : Option Rectangle) → IsStrictWeakOrder
    (is_more_urgent list marks f s)
urgency_order list marks f s =
    IsStrictWeakOrder-flip (λ i j. nat_lt (urgency f s (mark_at marks i) (rect_at list i))
    (urgency f s (mark_at marks j) (rect_at list j)))
    (IsStrictWeakOrder-by_number (λ (i : ℕ). urgency f s (mark_at marks i) (rect_at list i)))

-- ---- reading

pub rect_is : (list : List Rectangle) (i : ℕ) (r : Rectangle) → i < length list → r ≡ get_or list i r →
    r ≡ rect_at list i
rect_is list i r within is = is ∙ get_or_default list i r origin within

-- ---- the best so far

pub took : {X : Type 0} (beats : X → X → Bool) (x y z : X) → beats y x ≡ true → z ≡ y → z ≡ better beats x y
took beats x y z e is = is ∙ sym (λ i. if e i then y else x)

pub kept : {X : Type 0} (beats : X → X → Bool) (x y z : X) → beats y x ≡ false → z ≡ x → z ≡ better beats x y
kept beats x y z e is = is ∙ sym (λ i. if e i then y else x)

pub all_positions : (n : ℕ) → 0 < n → positions n ≡ 0 ∷ range_with_len 1 (n - 1)
all_positions zero some = absurd (omega (arith, some))
all_positions (suc n) some = let e : n ≡ suc n - 1 = omega arith in ap (λ k. 0 ∷ range_with_len 1 k) e

-- when no position is left, the best so far is the best
pub found : (beats : ℕ → ℕ → Bool) → IsStrictWeakOrder beats → (n i at : ℕ) → 0 < n → n ≤ i →
    fold (better beats) at (range_with_len i (n - i)) ≡ fold (better beats) 0 (range_with_len 1 (n - 1)) →
    at ≡ best beats 0 (positions n)
found beats o n i at some done rest =
    let none : n - i ≡ 0 = omega (arith, done) in
    sym (at_end (better beats) i n at none) ∙ rest ∙ sym (best_is beats o 0 0 (range_with_len 1 (n - 1))) ∙ ap
    (best beats 0) (sym (all_positions n some))

-- one position more: what the loop keeps
pub record Keeps (beats : ℕ → ℕ → Bool) (n i at : ℕ) : Type 0 where
  pub within : at < n
  pub rest : fold (better beats) at (range_with_len i (n - i)) ≡ fold (better beats) 0 (range_with_len 1 (n - 1))

pub keeps_on : (beats : ℕ → ℕ → Bool) (n i at new : ℕ) → i < n → at < n → new ≡ better beats at i →
    fold (better beats) at (range_with_len i (n - i)) ≡ fold (better beats) 0 (range_with_len 1 (n - 1)) →
    Keeps beats n (i + 1) new
keeps_on beats n i at new inside here is rest = record {
  within = subst (λ k. k < n) (sym is) (one_of (beats i at));
  rest = go_on (better beats) i n at new _ inside is rest;
}
  where
    one_of : (b : Bool) → (if b then i else at) < n
    one_of true = inside
    one_of false = here

-- ---- as the code compares them

int_less : (x y : ℤ) → SFits w128 y → lt_z x (to_z w128 (of_z w128 y)) ≡ true → is_lt (int_cmp x y) ≡ true
int_less x y fy h = grind (arith, ints)

int_not_less : (x y : ℤ) → SFits w128 y → lt_z x (to_z w128 (of_z w128 y)) ≡ false → is_lt (int_cmp x y) ≡ false
int_not_less x y fy h = grind (arith, ints)

pub more_waste : (list : List Rectangle) (p q : Pair) (x y : ℤ) → SFits w128 x → x ≡ waste list p →
    y ≡ waste list q → lt_z y (to_z w128 (of_z w128 x)) ≡ true → wastes_more list p q ≡ true
more_waste list p q x y fx a b h = sym (λ i. is_lt (int_cmp (b i) (a i))) ∙ int_less y x fx h

pub less_waste : (list : List Rectangle) (p q : Pair) (x y : ℤ) → SFits w128 x → x ≡ waste list p →
    y ≡ waste list q → lt_z y (to_z w128 (of_z w128 x)) ≡ false → wastes_more list p q ≡ false
less_waste list p q x y fx a b h = sym (λ i. is_lt (int_cmp (b i) (a i))) ∙ int_not_less y x fx h

-- a whole number that fits is kept as it is
pub kept_whole : (x : ℤ) → SFits w128 x → to_z w128 (of_z w128 x) ≡ x
kept_whole x fits = omega (arith, ints)

-- the waste of a pair is that of the same pair
pub waste_at : (list : List Rectangle) (x : ℤ) (p q : Pair) → x ≡ waste list q → p ≡ q → x ≡ waste list p
waste_at list x p q is same = is ∙ sym (ap (waste list) same)

-- the urgency at a position is that at the same position
pub urgency_at : (list : List Rectangle) (marks : List Mark) (f s : Option Rectangle) (n i j : ℕ) →
    n ≡ urgency f s (mark_at marks j) (rect_at list j) → i ≡ j → n ≡ urgency f s (mark_at marks i) (rect_at list i)
urgency_at list marks f s n i j is same = is ∙ sym (λ k. urgency f s (mark_at marks (same k)) (rect_at list (same k)))

pub more_urgent : (a b u v : ℕ) → a ≡ u → b ≡ v → a < b → nat_lt u v ≡ true
more_urgent a b u v p q h = grind (arith, nat_tests)

pub less_urgent : (a b u v : ℕ) → a ≡ u → b ≡ v → b ≤ a → nat_lt u v ≡ false
less_urgent a b u v p q h = grind (arith, nat_tests)
