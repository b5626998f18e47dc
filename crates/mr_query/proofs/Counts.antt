-- How many of some numbers are below a bound, and what that tells of the kth least of them.
use Rattle.std.proofs.Common.{◌≡◌, ℕ, ◌+◌, ◌<◌, ◌≤◌, cond, List, [], ◌∷◌, ◌++◌, length, get_or, min, refl, ap, inl, inr, arith}
use Rattle.std.specs.Prelude.{Option, Some, None, nat_lt}
use Rattle.std.specs.List.{AllByRecursion, sum}
use Rattle.std.specs.List.Sorted.{IsPermutation}
use Rattle.std.proofs.lemmas.Bool.{cases_Bool, lt-ltb, le-ltb, ltb-true}
use Rattle.std.proofs.lemmas.List.Sums.{sum_by-cons, sum_by-append, count_by-le-length, sum_by-le-sum_by}
use Rattle.std.proofs.lemmas.List.Sorted.{sum_by-IsPermutation}
use Rattle.mr_query.specs.private.Radius.{below, IsRadius}

-- ---- one number

-- 1 where the number is below x, and else 0
abbrev pub one_below : ℕ → ℕ → ℕ
one_below x n = cond (nat_lt n x) 1 0

pub one_below-lt : (x n : ℕ) → n < x → one_below x n ≡ 1
one_below-lt x n h = ap (λ b. cond b 1 0) (lt-ltb n x h)

pub one_below-le : (x n : ℕ) → x ≤ n → one_below x n ≡ 0
one_below-le x n h = ap (λ b. cond b 1 0) (le-ltb n x h)

pub one_below-most : (x n : ℕ) → one_below x n ≤ 1
one_below-most x n = elim (cases_Bool (nat_lt n x)) [
  | inl t ↦ let e : one_below x n ≡ 1 = ap (λ b. cond b 1 0) t in omega arith
  | inr f ↦ let e : one_below x n ≡ 0 = ap (λ b. cond b 1 0) f in omega arith
]

one_below-rises : (x y n : ℕ) → x ≤ y → one_below x n ≤ one_below y n
one_below-rises x y n h = elim (cases_Bool (nat_lt n x)) [
  | inl t ↦
      let less : n < x = ltb-true n x t in
      let low = one_below-lt x n less in
      let high = one_below-lt y n (omega arith) in
      omega arith
  | inr f ↦ let low : one_below x n ≡ 0 = ap (λ b. cond b 1 0) f in omega arith
]

-- ---- lists

pub below-cons : (x n : ℕ) (ns : List ℕ) → below x (n ∷ ns) ≡ one_below x n + below x ns
below-cons x n ns = sum_by-cons (one_below x) n ns

pub below-append : (x : ℕ) (ms ns : List ℕ) → below x (ms ++ ns) ≡ below x ms + below x ns
below-append x ms ns = sum_by-append (one_below x) ms ns

pub below-permutation : (x : ℕ) (ms ns : List ℕ) → IsPermutation ms ns → below x ns ≡ below x ms
below-permutation x ms ns h = sum_by-IsPermutation (one_below x) ms ns h

pub below-length : (x : ℕ) (ns : List ℕ) → below x ns ≤ length ns
below-length x ns = count_by-le-length (λ n. nat_lt n x) ns

pub below-rises : (x y : ℕ) (ns : List ℕ) → x ≤ y → below x ns ≤ below y ns
below-rises x y ns h = sum_by-le-sum_by (one_below x) (one_below y) ns (λ n. one_below-rises x y n h)

-- all of them
pub below-all : (x : ℕ) (ns : List ℕ) → AllByRecursion (λ n. n < x) ns → below x ns ≡ length ns
below-all x [] all = refl
below-all x (n ∷ ns) all =
    let first = below-cons x n ns in
    let here = one_below-lt x n all.0 in
    let rest = below-all x ns all.1 in
    omega arith

-- none of them
pub below-none : (x : ℕ) (ns : List ℕ) → AllByRecursion (λ n. x ≤ n) ns → below x ns ≡ 0
below-none x [] all = refl
below-none x (n ∷ ns) all =
    let first = below-cons x n ns in
    let here = one_below-le x n all.0 in
    let rest = below-none x ns all.1 in
    omega arith

pub all_under : (x g : ℕ) (ns : List ℕ) → g < x → AllByRecursion (λ n. n ≤ g) ns → AllByRecursion (λ n. n < x) ns
all_under x g [] h all = tt
all_under x g (n ∷ ns) h all = (let here = all.0 in omega arith, all_under x g ns h all.1)

under_sum : (m : ℕ) (ns : List ℕ) → sum ns ≤ m → AllByRecursion (λ n. n < m + 1) ns
under_sum m [] h = tt
under_sum m (n ∷ ns) h = let first = sum_by-cons (λ (n : ℕ). n) n ns in (omega arith, under_sum m ns (omega arith))

-- a bound that all of them are below
pub below-sum : (ns : List ℕ) → below (sum ns + 1) ns ≡ length ns
below-sum ns = below-all (sum ns + 1) ns (under_sum (sum ns) ns (omega arith))

-- ---- the k least of some numbers, in place of all

-- of more than k the greatest may go
pub greatest_gone : (k x g : ℕ) (ms ns : List ℕ) → IsPermutation ms (g ∷ ns) → AllByRecursion (λ n. n ≤ g) ms
    → k < length ms → min k (below x ns) ≡ min k (below x ms)
greatest_gone k x g ms ns same all many = elim (cases_Bool (nat_lt g x)) [
  | inl t ↦
      let less : g < x = ltb-true g x t in
      let here = one_below-lt x g less in
      let whole = below-all x ms (all_under x g ms less all) in
      let moved = below-permutation x ms (g ∷ ns) same in
      let first = below-cons x g ns in
      omega arith
  | inr f ↦
      let here : one_below x g ≡ 0 = ap (λ b. cond b 1 0) f in
      let moved = below-permutation x ms (g ∷ ns) same in
      let first = below-cons x g ns in
      omega arith
]

-- the greatest of k numbers is the kth least of them
pub greatest_is_radius : (k g : ℕ) (ns : List ℕ) → 1 ≤ k → length ns ≡ k → AllByRecursion (λ n. n ≤ g) ns
    → get_or ns 0 g ≡ g → IsRadius k ns (Some g)
greatest_is_radius k g [] some many all first = absurd (omega arith)
greatest_is_radius k g (n ∷ ns) some many all first =
    let same : n ≡ g = first in
    let here = one_below-le g n (omega arith) in
    let cons = below-cons g n ns in
    let short = below-length g ns in
    let whole = below-all (g + 1) (n ∷ ns) (all_under (g + 1) g (n ∷ ns) (omega arith) all) in
    (omega arith, omega arith)

-- ---- there is one radius alone

not_under : (k a b : ℕ) (ns : List ℕ) → k ≤ below (a + 1) ns → below b ns < k → b ≤ a
not_under k a b ns high low = by_no_less a b (λ less. let rise = below-rises (a + 1) b ns less in omega arith)
  where
    by_no_less : (a b : ℕ) → (a + 1 ≤ b → ⊥) → b ≤ a
    by_no_less a b h = omega arith

pub one_radius : (k : ℕ) (ns : List ℕ) (a b : Option ℕ) → IsRadius k ns a → IsRadius k ns b → a ≡ b
one_radius k ns None None h i = refl
one_radius k ns None (Some b) h i = let few = below-length (b + 1) ns in let many = i.1 in absurd (omega arith)
one_radius k ns (Some a) None h i = let few = below-length (a + 1) ns in let many = h.1 in absurd (omega arith)
one_radius k ns (Some a) (Some b) h i =
    let one = not_under k a b ns h.1 i.0 in
    let other = not_under k b a ns i.1 h.0 in
    let same : a ≡ b = omega arith in
    ap Some same
