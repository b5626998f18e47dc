-- The kth least of some numbers is their radius, and no other is.
use Rattle.std.proofs.Common.{◌≡◌, ℕ, zero, suc, ◌+◌, ◌-◌, ◌<◌, ◌≤◌, List, [], ◌∷◌, length, refl, sym, ap, subst, ◌∙◌, inl, inr, arith}
use Rattle.std.specs.Prelude.{Option, Some, None, nat_lt}
use Rattle.std.specs.List.{AllByRecursion, slice_get}
use Rattle.std.proofs.lemmas.Bool.{cases_Bool, ltb-true, ltb-false}
use Rattle.mr_record.specs.Sorting.{put_in, sorted_by}
use Rattle.mr_query.specs.Nearest.{kth_least}
use Rattle.mr_query.specs.private.Radius.{below, IsRadius}
use Rattle.mr_query.proofs.Counts.{one_below, one_below-lt, one_below-most, below-cons, below-none, one_radius}

-- in rising order
abbrev rising : List ℕ → List ℕ
rising ns = sorted_by nat_lt ns

-- ---- sorting moves no count

below-put : (x n : ℕ) (ns : List ℕ) → below x (put_in nat_lt n ns) ≡ one_below x n + below x ns
below-put x n [] = below-cons x n []
below-put x n (m ∷ ms) = elim (cases_Bool (nat_lt m n)) [
  | inl t ↦ rw t
      (let whole = below-cons x m (put_in nat_lt n ms) in
      let first = below-cons x m ms in
      let rest = below-put x n ms in
      omega arith)
  | inr f ↦ rw f (below-cons x n (m ∷ ms))
]

below-rising : (x : ℕ) (ns : List ℕ) → below x (rising ns) ≡ below x ns
below-rising x [] = refl
below-rising x (n ∷ ns) =
    below-put x n (rising ns) ∙ ap (λ m. one_below x n + m) (below-rising x ns) ∙ sym (below-cons x n ns)

length-put : (n : ℕ) (ns : List ℕ) → length (put_in nat_lt n ns) ≡ suc (length ns)
length-put n [] = refl
length-put n (m ∷ ms) = elim (cases_Bool (nat_lt m n)) [
  | inl t ↦ rw t (ap suc (length-put n ms))
  | inr f ↦ rw f refl
]

length-rising : (ns : List ℕ) → length (rising ns) ≡ length ns
length-rising [] = refl
length-rising (n ∷ ns) = length-put n (rising ns) ∙ ap suc (length-rising ns)

-- ---- and gives a list that rises

abbrev Rises : List ℕ → Type 0
Rises [] = Unit {0}
Rises (n ∷ ns) = AllByRecursion (λ m. n ≤ m) ns × Rises ns

all_put : (l n : ℕ) (ns : List ℕ) → l ≤ n → AllByRecursion (λ m. l ≤ m) ns
    → AllByRecursion (λ m. l ≤ m) (put_in nat_lt n ns)
all_put l n [] h all = (h, tt)
all_put l n (m ∷ ms) h all = elim (cases_Bool (nat_lt m n)) [
  | inl t ↦ rw t (all.0, all_put l n ms h all.1)
  | inr f ↦ rw f (h, all)
]

all_above : (l n : ℕ) (ns : List ℕ) → l ≤ n → AllByRecursion (λ m. n ≤ m) ns → AllByRecursion (λ m. l ≤ m) ns
all_above l n [] h all = tt
all_above l n (m ∷ ms) h all = (let here = all.0 in omega arith, all_above l n ms h all.1)

put_rises : (n : ℕ) (ns : List ℕ) → Rises ns → Rises (put_in nat_lt n ns)
put_rises n [] up = (tt, tt)
put_rises n (m ∷ ms) up = elim (cases_Bool (nat_lt m n)) [
  | inl t ↦
      let less : m < n = ltb-true m n t in
      let le : m ≤ n = omega arith in
      rw t (all_put m n ms le up.0, put_rises n ms up.1)
  | inr f ↦ let le : n ≤ m = ltb-false m n f in rw f ((le, all_above n m ms le up.0), up)
]

rising_rises : (ns : List ℕ) → Rises (rising ns)
rising_rises [] = tt
rising_rises (n ∷ ns) = put_rises n (rising ns) (rising_rises ns)

-- ---- of which the kth is the radius

above_first : (n x : ℕ) (ns : List ℕ) → AllByRecursion (λ m. n ≤ m) ns → 0 < below x ns → n < x
above_first n x ns all some =
    by_no_less n x (λ le. let none = below-none x ns (all_above x n ns le all) in omega arith)
  where
    by_no_less : (n x : ℕ) → (x ≤ n → ⊥) → n < x
    by_no_less n x h = omega arith

-- one place further in a list with one number more in front
behind : (n k : ℕ) (ns : List ℕ) (r : Option ℕ) → AllByRecursion (λ m. n ≤ m) ns → IsRadius (suc k) ns r
    → IsRadius (suc (suc k)) (n ∷ ns) r
behind n k ns None all h = omega arith
behind n k ns (Some r) all h =
    let low = h.0 in
    let high = h.1 in
    let here = below-cons r n ns in
    let next = below-cons (r + 1) n ns in
    let most = one_below-most r n in
    let first = one_below-lt (r + 1) n (above_first n (r + 1) ns all (omega arith)) in
    (omega arith, omega arith)

at_place : (i : ℕ) (ns : List ℕ) → Rises ns → IsRadius (suc i) ns (slice_get ns i)
at_place i [] up = omega arith
at_place zero (n ∷ ns) up =
    let le : n ≤ n = omega arith in
    let none = below-none n (n ∷ ns) (le, up.0) in
    let next = below-cons (n + 1) n ns in
    let first = one_below-lt (n + 1) n (omega arith) in
    (omega arith, omega arith)
at_place (suc i) (n ∷ ns) up = behind n i ns (slice_get ns i) up.0 (at_place i ns up.1)

same_counts : (k : ℕ) (ms ns : List ℕ) (r : Option ℕ) → ((x : ℕ) → below x ms ≡ below x ns)
    → length ms ≡ length ns → IsRadius k ms r → IsRadius k ns r
same_counts k ms ns None same len h = omega arith
same_counts k ms ns (Some r) same len h =
    let low = h.0 in
    let high = h.1 in
    let here = same r in
    let next = same (r + 1) in
    (omega arith, omega arith)

pub kth_is_radius : (k : ℕ) (ns : List ℕ) → 1 ≤ k → IsRadius k ns (kth_least k ns)
unfolding kth_least
kth_is_radius zero ns some = absurd (omega arith)
kth_is_radius (suc k) ns some =
    let index : suc k - 1 ≡ k = omega arith in
    same_counts (suc k) (rising ns) ns (kth_least (suc k) ns) (λ x. below-rising x ns) (length-rising ns)
    (subst (λ i. IsRadius (suc k) (rising ns) (slice_get (rising ns) i)) (sym index)
    (at_place k (rising ns) (rising_rises ns)))

pub radius_is_kth : (k : ℕ) (ns : List ℕ) (r : Option ℕ) → 1 ≤ k → IsRadius k ns r → r ≡ kth_least k ns
radius_is_kth k ns r some h = one_radius k ns r (kth_least k ns) h (kth_is_radius k ns some)
