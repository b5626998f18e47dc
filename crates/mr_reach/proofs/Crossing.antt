-- How many rectangles one meets, by their corners.
use Rattle.std.proofs.Common.{◌≡◌, ℕ, zero, suc, ◌+◌, ◌≤◌, ◌<◌, ℤ, pos, ◌-ℤ◌, ◌≤ℤ◌, ◌<ℤ◌, Bool, true, false, not, cond, List, [], ◌∷◌, length, map, refl, sym, ap, ◌∙◌, inl, inr, arith, ltb}
use Rattle.std.specs.Prelude.{int_le, ◌&&◌, ◌||◌}
use Rattle.std.specs.List.{count_by, list_any, AllByRecursion}
use Rattle.std.proofs.lemmas.Bool.{cases_Bool, false≢true, lt-ltb}
use Rattle.std.proofs.lemmas.Float.{T_from_true}
use Rattle.std.proofs.lemmas.Int.{ints, by_lt_z}
use Rattle.std.proofs.lemmas.List.{length-map}
use Rattle.std.proofs.lemmas.List.Elements.{recursion_from_All}
use Rattle.std.proofs.lemmas.List.Sums.{sum_by-cons, count_by-le-length}
use Rattle.mr_geom.specs.Rectangle.{Rectangle, IsOrdered}
use Rattle.mr_geom.specs.Plane.{touches}
use Rattle.mr_geom.specs.declared.point.Point.{Point}
use Rattle.mr_geom.proofs.Rectangles.{true_from_T}
use Rattle.mr_reach.specs.private.Corners.{Axes, axes_count, corner_count, CountsCorners}
use Rattle.mr_reach.specs.private.Meeting.{corner_of, HasCorners}

-- ---- one axis

not_both : (a b : ℤ) → a ≤ℤ b → b ≤ℤ (a -ℤ pos 1) → ⊥
not_both a b p q = omega (arith, ints)

-- not to end before a number is not to end at most at the one before it
turned : (a b : ℤ) → int_le a b ≡ not (int_le b (a -ℤ pos 1))
turned a b = by_test (int_le b (a -ℤ pos 1)) refl
  where
    below : b <ℤ a → b ≤ℤ (a -ℤ pos 1)
    below l = omega (arith, ints)

    by_test : (t : Bool) → int_le b (a -ℤ pos 1) ≡ t → int_le a b ≡ not t
    by_test true e = elim (cases_Bool (int_le a b)) [
      | inl t ↦ absurd (not_both a b (record { le = T_from_true _ t }) (record { le = T_from_true _ e }))
      | inr f ↦ f
    ]
    by_test false e =
        by_lt_z b a (λ l. absurd (false≢true (sym e ∙ true_from_T (int_le b (a -ℤ pos 1)) (below l).le)))
        (λ at. true_from_T (int_le a b) at.le)

-- what ends before another begins, begins before that ends
ended_begun : (a0 a1 b0 b1 : ℤ) → a0 ≤ℤ a1 → b0 ≤ℤ b1 → int_le b1 (a0 -ℤ pos 1) ≡ true → int_le b0 a1 ≡ true
ended_begun a0 a1 b0 b1 p q e =
    let before : b1 ≤ℤ (a0 -ℤ pos 1) = record { le = T_from_true _ e } in
    true_from_T (int_le b0 a1) (below before).le
  where
    below : b1 ≤ℤ (a0 -ℤ pos 1) → b0 ≤ℤ a1
    below h = omega (arith, ints)

-- ---- one rectangle

abbrev bit : Bool → ℕ
bit b = cond b 1 0

-- begun and ended along one axis, low and high along the other
balance : (begun ended low high : Bool) → (ended ≡ true → begun ≡ true) → (high ≡ true → low ≡ true)
    → cond ((not ended && begun) && (not high && low)) 1 0 + (cond (begun && high) 1 0 + cond (ended && low) 1 0)
    ≡ cond (begun && low) 1 0 + cond (ended && high) 1 0
balance true true true true p q = refl
balance true true true false p q = refl
balance true true false true p q = absurd (false≢true (q refl))
balance true true false false p q = refl
balance true false true true p q = refl
balance true false true false p q = refl
balance true false false true p q = absurd (false≢true (q refl))
balance true false false false p q = refl
balance false true low high p q = absurd (false≢true (p refl))
balance false false true true p q = refl
balance false false true false p q = refl
balance false false false true p q = absurd (false≢true (q refl))
balance false false false false p q = refl

-- how many corners of rectangles lie at most so far to the right and so high
abbrev corners : Bool → Bool → ℤ → ℤ → List Rectangle → ℕ
corners right upper x y rs = corner_count x y (map (corner_of right upper) rs)

abbrev meets_test : Rectangle → Rectangle → Bool
meets_test q r =
    (not (int_le r.x1 (q.x0 -ℤ pos 1)) && int_le r.x0 q.x1) && (not (int_le r.y1 (q.y0 -ℤ pos 1)) && int_le r.y0 q.y1)

touches_is : (q r : Rectangle) → touches q r ≡ meets_test q r
touches_is q r =
    λ i. (turned q.x0 r.x1 i && int_le r.x0 q.x1) && (turned q.y0 r.y1 i && int_le r.y0 q.y1)

one_more : (m a b c d m' a' b' c' d' : ℕ) → m + (a + b) ≡ c + d → m' + (a' + b') ≡ c' + d'
    → (m + m') + ((a + a') + (b + b')) ≡ (c + c') + (d + d')
one_more m a b c d m' a' b' c' d' p q = omega arith

-- one rectangle more at the head
corners-cons : (right upper : Bool) (x y : ℤ) (r : Rectangle) (rs : List Rectangle)
    → corners right upper x y (r ∷ rs)
    ≡ bit (int_le (corner_of right upper r).x x && int_le (corner_of right upper r).y y) + corners right upper x y rs
corners-cons right upper x y r rs =
    sum_by-cons (λ (p : Point). cond (int_le p.x x && int_le p.y y) 1 0) (corner_of right upper r)
    (map (corner_of right upper) rs)

abbrev met : Rectangle → List Rectangle → ℕ
met q rs = count_by (λ (w : Rectangle). touches q w) rs

met-cons : (q r : Rectangle) (rs : List Rectangle) → met q (r ∷ rs) ≡ bit (meets_test q r) + met q rs
met-cons q r rs =
    sum_by-cons (λ (w : Rectangle). cond (touches q w) 1 0) r rs
    ∙ ap (λ (b : Bool). cond b 1 0 + met q rs) (touches_is q r)

-- those met, with those begun and high and those ended and low, are those begun and low with those
-- ended and high
all_balance : (q : Rectangle) (rs : List Rectangle) → IsOrdered q → AllByRecursion IsOrdered rs
    → met q rs + (corners false true q.x1 (q.y0 -ℤ pos 1) rs + corners true false (q.x0 -ℤ pos 1) q.y1 rs)
    ≡ corners false false q.x1 q.y1 rs + corners true true (q.x0 -ℤ pos 1) (q.y0 -ℤ pos 1) rs
all_balance q [] o all = refl
all_balance q (r ∷ rs) o all =
    let one = balance (int_le r.x0 q.x1) (int_le r.x1 (q.x0 -ℤ pos 1)) (int_le r.y0 q.y1) (int_le r.y1 (q.y0 -ℤ pos 1))
    (ended_begun q.x0 q.x1 r.x0 r.x1 o.x all.0.x) (ended_begun q.y0 q.y1 r.y0 r.y1 o.y all.0.y) in
    whole q r rs one (all_balance q rs o all.1)
  where
    whole : (q r : Rectangle) (rs : List Rectangle)
        → bit (meets_test q r) + (bit (int_le r.x0 q.x1 && int_le r.y1 (q.y0 -ℤ pos 1))
        + bit (int_le r.x1 (q.x0 -ℤ pos 1) && int_le r.y0 q.y1))
        ≡ bit (int_le r.x0 q.x1 && int_le r.y0 q.y1)
        + bit (int_le r.x1 (q.x0 -ℤ pos 1) && int_le r.y1 (q.y0 -ℤ pos 1))
        → met q rs + (corners false true q.x1 (q.y0 -ℤ pos 1) rs + corners true false (q.x0 -ℤ pos 1) q.y1 rs)
        ≡ corners false false q.x1 q.y1 rs + corners true true (q.x0 -ℤ pos 1) (q.y0 -ℤ pos 1) rs
        → met q (r ∷ rs)
        + (corners false true q.x1 (q.y0 -ℤ pos 1) (r ∷ rs) + corners true false (q.x0 -ℤ pos 1) q.y1 (r ∷ rs))
        ≡ corners false false q.x1 q.y1 (r ∷ rs) + corners true true (q.x0 -ℤ pos 1) (q.y0 -ℤ pos 1) (r ∷ rs)
    whole q r rs one rest =
        (λ i. met-cons q r rs i + (corners-cons false true q.x1 (q.y0 -ℤ pos 1) r rs i
        + corners-cons true false (q.x0 -ℤ pos 1) q.y1 r rs i))
        ∙ one_more _ _ _ _ _ _ _ _ _ _ one rest
        ∙ sym (λ i. corners-cons false false q.x1 q.y1 r rs i
        + corners-cons true true (q.x0 -ℤ pos 1) (q.y0 -ℤ pos 1) r rs i)

-- ---- whether one is met

bit_of : (p : Rectangle → Bool) (r : Rectangle) (rs : List Rectangle)
    → count_by p (r ∷ rs) ≡ cond (p r) 1 0 + count_by p rs
bit_of p r rs = sum_by-cons (λ (w : Rectangle). cond (p w) 1 0) r rs

any_counted : (p : Rectangle → Bool) (rs : List Rectangle) → list_any p rs ≡ ltb 0 (count_by p rs)
any_counted p [] = refl
any_counted p (r ∷ rs) = by_test (p r) refl (any_counted p rs)
  where
    by_test : (t : Bool) → p r ≡ t → list_any p rs ≡ ltb 0 (count_by p rs)
        → list_any p (r ∷ rs) ≡ ltb 0 (count_by p (r ∷ rs))
    by_test true e rest =
        let some : 0 < count_by p (r ∷ rs) =
        omega (arith, bit_of p r rs ∙ ap (λ (b : Bool). cond b 1 0 + count_by p rs) e) in
        ap (λ (b : Bool). b || list_any p rs) e ∙ sym (lt-ltb 0 (count_by p (r ∷ rs)) some)
    by_test false e rest =
        let same : count_by p rs ≡ count_by p (r ∷ rs) =
        omega (arith, bit_of p r rs ∙ ap (λ (b : Bool). cond b 1 0 + count_by p rs) e) in
        ap (λ (b : Bool). b || list_any p rs) e ∙ rest ∙ ap (ltb 0) same

more_than : (k m n : ℕ) → k + m ≡ n → ltb m n ≡ ltb 0 k
more_than zero m n e = grind arith
more_than (suc k) m n e =
    let more : m < n = omega arith in
    let some : 0 < suc k = omega arith in
    lt-ltb m n more ∙ sym (lt-ltb 0 (suc k) some)

pub meets_is : (q : Rectangle) (rs : List Rectangle) (ll ul lr ur : Axes) (right above left below : ℤ) (a b c d : ℕ)
    → HasCorners rs ll ul lr ur → IsOrdered q → right ≡ q.x1 → above ≡ q.y1 → left ≡ (q.x0 -ℤ pos 1)
    → below ≡ (q.y0 -ℤ pos 1) → a ≡ axes_count right above ll → b ≡ axes_count left below ur
    → c ≡ axes_count right below ul → d ≡ axes_count left above lr
    → ltb (c + d) (a + b) ≡ list_any (λ (w : Rectangle). touches q w) rs
meets_is q rs ll ul lr ur right above left below a b c d has o right_is above_is left_is below_is a_is b_is c_is d_is =
    more_than (met q rs) (c + d) (a + b)
    ((λ i. met q rs + (upper_left i + lower_right i)) ∙ all_balance q rs o (recursion_from_All IsOrdered rs has.ordered)
    ∙ sym (λ i. lower_left i + upper_right i))
    ∙ sym (any_counted (λ (w : Rectangle). touches q w) rs)
  where
    lower_left : a ≡ corners false false q.x1 q.y1 rs
    lower_left = a_is ∙ (λ i. axes_count (right_is i) (above_is i) ll) ∙ has.low_left q.x1 q.y1

    upper_right : b ≡ corners true true (q.x0 -ℤ pos 1) (q.y0 -ℤ pos 1) rs
    upper_right =
        b_is ∙ (λ i. axes_count (left_is i) (below_is i) ur) ∙ has.high_right (q.x0 -ℤ pos 1) (q.y0 -ℤ pos 1)

    upper_left : c ≡ corners false true q.x1 (q.y0 -ℤ pos 1) rs
    upper_left = c_is ∙ (λ i. axes_count (right_is i) (below_is i) ul) ∙ has.high_left q.x1 (q.y0 -ℤ pos 1)

    lower_right : d ≡ corners true false (q.x0 -ℤ pos 1) q.y1 rs
    lower_right = d_is ∙ (λ i. axes_count (left_is i) (above_is i) lr) ∙ has.low_right (q.x0 -ℤ pos 1) q.y1

-- a count is at most the number of rectangles
pub few_corners : (right upper : Bool) (rs : List Rectangle) (axes : Axes) (x y : ℤ) (n : ℕ)
    → CountsCorners (map (corner_of right upper) rs) axes → n ≡ axes_count x y axes → n ≤ length rs
few_corners right upper rs axes x y n counts is =
    let few = count_by-le-length (λ (p : Point). int_le p.x x && int_le p.y y) (map (corner_of right upper) rs) in
    let same = is ∙ counts x y in
    omega (arith, length-map rs (corner_of right upper))
