-- How many groups and slices there are, and where each begins.
use Rattle.std.proofs.Common.{◌≡◌, ℕ, suc, zero, ◌+◌, ◌*◌, ◌/◌, ◌<◌, ◌≤◌, sym, ap, subst, ◌∙◌, arith, inl, inr}
use borrow.Author.Tests.{leb-true, leb-false, le-leb, lt-leb}
use Rattle.std.specs.Prelude.{nat_le, ◌⊎◌}
use Rattle.std.proofs.Math.Nat.{div-mul-le_self, lt-div-mul-add, zero-div, mul-div_cancel_left, mul-le-mul_right, le-mul_of_pos_right, zero-mul}
use Rattle.std.proofs.lemmas.Nat.{le-div, div_below, mul-le}
use Rattle.std.specs.Int.{div_ceil}
use Rattle.std.proofs.lemmas.Grind.{div_ceil_times}
use Rattle.mr_pack.specs.Cuts.{group_count, slice_count, group_start, slice_start}
use Rattle.mr_pack.proofs.Least.{least_is, least_within, least_passes, none_below}

times_sum : (q h p : ℕ) → (q + h) * p ≡ q * p + h * p
times_sum q h p = grind arith

-- a quotient grows by at least h where the dividend grows by h times the divisor
pub quotient_more : (a n h p : ℕ) → 0 < p → h * p ≤ n → a / p + h ≤ (a + n) / p
quotient_more a n h p some more =
    le-div (a / p + h) (a + n) p some (omega (arith, times_sum (a / p) h p, div-mul-le_self a p))

-- and by at most h where the dividend grows by no more
pub quotient_less : (a n h p : ℕ) → 0 < p → n ≤ h * p → (a + n) / p ≤ a / p + h
quotient_less a n h p some less =
    let below : a + n < (a / p + h + 1) * p = omega
    (arith, times_sum (a / p) (h + 1) p, times_sum h 1 p, lt-div-mul-add {a = a} {b = p} some) in
    omega (arith, div_below (a + n) p (a / p + h + 1) some below)

times_next : (i n : ℕ) → (i + 1) * n ≡ i * n + n
times_next i n = grind arith

pub start_grows : (n p i h : ℕ) → 0 < p → h * p ≤ n → group_start n p i + h ≤ group_start n p (i + 1)
start_grows n p i h some more =
    subst (λ a. i * n / p + h ≤ a / p) (sym (times_next i n)) (quotient_more (i * n) n h p some more)

pub start_bounded : (n p i h : ℕ) → 0 < p → n ≤ h * p → group_start n p (i + 1) ≤ group_start n p i + h
start_bounded n p i h some less =
    subst (λ a. a / p ≤ i * n / p + h) (sym (times_next i n)) (quotient_less (i * n) n h p some less)

pub start_rises : (n p i : ℕ) → 0 < p → group_start n p i ≤ group_start n p (i + 1)
start_rises n p i some = omega (arith, start_grows n p i 0 some (omega arith))

pub start_first : (n p : ℕ) → group_start n p 0 ≡ 0
start_first n p = ap (λ a. a / p) (zero-mul n) ∙ zero-div p

pub start_last : (n p : ℕ) → 0 < p → group_start n p p ≡ n
start_last n p some = mul-div_cancel_left n some

-- also where there is nothing to begin with
pub start_reaches : (n p : ℕ) → (0 < n → 0 < p) → n ≤ group_start n p p
start_reaches zero zero some = omega arith
start_reaches (suc n) zero some = let no : 0 < 0 = some (omega arith) in absurd (omega (arith, no))
start_reaches n (suc p) some = omega (arith, start_last n (suc p) (omega arith))

-- a later group begins no earlier
pub start_between : (n p i j : ℕ) → 0 < p → i ≤ j → group_start n p i ≤ group_start n p j
start_between n p i j some up =
    le-div (i * n / p) (j * n) p some (omega (arith, div-mul-le_self (i * n) p, mul-le-mul_right {m = i} {n = j} n up))

pub start_within : (n p i : ℕ) → 0 < p → i ≤ p → group_start n p i ≤ n
start_within n p i some within = omega (arith, start_between n p i p some within, start_last n p some)

pub slice_rises : (n p s j : ℕ) → 0 < p → 0 < s → slice_start n p s j ≤ slice_start n p s (j + 1)
slice_rises n p s j some slices = start_between n p (j * p / s) ((j + 1) * p / s) some (start_rises p s j slices)

pub slice_first : (n p s : ℕ) → slice_start n p s 0 ≡ 0
slice_first n p s = ap (λ i. group_start n p i) (start_first p s) ∙ start_first n p

pub slice_last : (n p s : ℕ) → 0 < p → 0 < s → slice_start n p s s ≡ n
slice_last n p s some slices = ap (λ i. group_start n p i) (start_last p s slices) ∙ start_last n p some

pub slice_within : (n p s j : ℕ) → 0 < p → 0 < s → j ≤ s → slice_start n p s j ≤ n
slice_within n p s j some slices within = start_within n p (j * p / s) some (start_within p s j slices within)

pub slice_reaches : (n p s : ℕ) → (0 < n → 0 < p) → (0 < p → 0 < s) → n ≤ slice_start n p s s
slice_reaches zero p s some slices = omega arith
slice_reaches (suc n) p s some slices =
    omega (arith, slice_last (suc n) p s (some (omega arith)) (slices (some (omega arith))))

-- ---- how many groups

times_more : (k m c : ℕ) → k < m → k * c + c ≤ m * c
times_more k m c h = omega (arith, times_sum k 1 c, mul-le-mul_right {m = k + 1} {n = m} c (omega arith), times_one c)
  where
    times_one : (c : ℕ) → 1 * c ≡ c
    times_one c = grind arith

at_least : (n c : ℕ) → 0 < c → n ≤ n * c
at_least n c some = le-mul_of_pos_right n some

no_more : (n c m : ℕ) → 0 < c → m * c < n + c → m ≤ n
no_more n c m some h =
    elim (either m n) [ inl low ↦ low | inr high ↦ absurd (omega (arith, times_more n m c high, at_least n c some, h)) ]
  where
    either : (m n : ℕ) → (m ≤ n) ⊎ (n < m)
    either m n = grind arith

pub rounded_up_is : (n c : ℕ) → 0 < c → div_ceil n c ≡ group_count n c
unfolding group_count
rounded_up_is n c some =
    let times = div_ceil_times n c some in
    sym (least_is (λ p. nat_le n (p * c)) n (div_ceil n c) (no_more n c (div_ceil n c) some times.1)
    (le-leb n (div_ceil n c * c) times.0)
    (λ k h. lt-leb n (k * c) (omega (arith, times_more k (div_ceil n c) c h, times.1))))

pub groups_hold : (n c : ℕ) → 0 < c → n ≤ group_count n c * c
unfolding group_count
groups_hold n c some =
    leb-true n (group_count n c * c) (least_passes (λ p. nat_le n (p * c)) n (le-leb n (n * c) (at_least n c some)))

pub groups_within : (n c : ℕ) → group_count n c ≤ n
unfolding group_count
groups_within n c = least_within (λ p. nat_le n (p * c)) n

pub groups_needed : (n c k : ℕ) → k < group_count n c → k * c < n
unfolding group_count
groups_needed n c k h = leb-false n (k * c) (none_below (λ p. nat_le n (p * c)) n k h)

-- ---- how many slices

pub square_above : (s p : ℕ) → s * s < p → s < p
square_above zero p h = omega (arith, h)
square_above (suc s) p h = omega (arith, le-mul_of_pos_right {m = suc s} (suc s) (omega arith), h)

pub squares_rise : (a b : ℕ) → a ≤ b → a * a ≤ b * b
squares_rise a b h = mul-le a a b b h h

-- the first number whose square reaches p
pub slices_are : (p s : ℕ) → s ≤ p → p ≤ s * s → ((k : ℕ) → k < s → k * k < p) → s ≡ slice_count p
unfolding slice_count
slices_are p s within enough below =
    sym (least_is (λ k. nat_le p (k * k)) p s within (le-leb p (s * s) enough) (λ k h. lt-leb p (k * k) (below k h)))

pub slices_within : (p : ℕ) → slice_count p ≤ p
unfolding slice_count
slices_within p = least_within (λ k. nat_le p (k * k)) p

pub positive : (s p : ℕ) → 0 < p → p ≤ s * s → 0 < s
positive zero p some h = absurd (omega (arith, h))
positive (suc s) p some h = omega arith

pub some_slices : (p : ℕ) → 0 < p → 0 < slice_count p
unfolding slice_count
some_slices p some =
    let enough = leb-true p (slice_count p * slice_count p)
    (least_passes (λ k. nat_le p (k * k)) p (le-leb p (p * p) (le-mul_of_pos_right p some))) in
    positive (slice_count p) p some enough

pub some_groups : (n c : ℕ) → 0 < c → 0 < n → 0 < group_count n c
some_groups n c some more = positive_factor (group_count n c) c n more (groups_hold n c some)
  where
    positive_factor : (p c n : ℕ) → 0 < n → n ≤ p * c → 0 < p
    positive_factor zero c n more h = absurd (omega (arith, h, zero-mul c))
    positive_factor (suc p) c n more h = omega arith

pub groups_fewer : (n c : ℕ) → 2 ≤ c → 1 < n → group_count n c < n
groups_fewer zero c two more = absurd (omega (arith, more))
groups_fewer (suc k) c two more =
    elim (either (suc k) (group_count (suc k) c)) [
      | inl high ↦
          absurd (omega (arith, groups_needed (suc k) c k (omega (arith, high)), mul-le k 2 k c (omega arith) two))
      | inr low ↦ low
    ]
  where
    either : (m n : ℕ) → (m ≤ n) ⊎ (n < m)
    either m n = grind arith

pub groups_few : (n c m : ℕ) → n ≤ m * c → group_count n c ≤ m
groups_few n c m enough =
    elim (either (group_count n c) m)
    [ inl low ↦ low | inr high ↦ absurd (omega (arith, groups_needed n c m high, enough)) ]
  where
    either : (m n : ℕ) → (m ≤ n) ⊎ (n < m)
    either m n = grind arith
