-- Records that differ in their numbers have one answer, in whatever order they stand.
use Rattle.std.proofs.Common.{◌≡◌, ℕ, ◌+◌, ◌<◌, ◌≤◌, Bool, true, false, cond, ◌&&◌, List, [], ◌∷◌, length, refl, sym, ap, subst, ◌∙◌, inl, inr, arith}
use Rattle.std.specs.Prelude.{◌==◌, count_by}
use Rattle.std.specs.List.{AllByRecursion, filter}
use Rattle.std.specs.Cmp.{IsStrictWeakOrder}
use Rattle.std.specs.List.Sorted.{IsPermutation, IsNonDecreasing, ties}
use Rattle.std.specs.Ordering.{is_lt, nat_cmp}
use Rattle.std.proofs.lemmas.Bool.{ltb-true, lt-ltb, cases_lt, eq-eqb}
use Rattle.std.proofs.lemmas.Cmp.{nat_cmp_total}
use Rattle.std.proofs.lemmas.List.Elements.{All-from_recursion, recursion_from_All}
use Rattle.std.proofs.lemmas.List.Sorted.{ranks_by, sum_by-IsPermutation, All-permutation, IsNonDecreasingBy-drop}
use Rattle.std.proofs.lemmas.List.Sums.{sum_by-cons, length-filter}
use borrow.Author.Tests.{eqb-true}
use Rattle.mr_geom.specs.Plane.{touches}
use Rattle.mr_geom.specs.Rectangle.{Rectangle}
use Rattle.mr_record.specs.declared.record.Record.{Record}
use Rattle.mr_record.proofs.Sorting.{same_sorted, sorted_rises, sorted_keeps}
use Rattle.mr_query.specs.Layers.{is_on}
use Rattle.mr_query.specs.Scan.{by_number, on_layers, scan_shape}
use Rattle.mr_query.specs.declared.query.Shape.TheVariants.{Window}
use Rattle.mr_check.specs.private.Differing.{rise, rise_after, numbers_of, EachOnce}

first_of_both : (a b : Bool) → (a && b) ≡ true → a ≡ true
first_of_both true b e = refl
first_of_both false b e = e

second_of_both : (a b : Bool) → (a && b) ≡ true → b ≡ true
second_of_both true b e = e
second_of_both false b e = cc

-- ---- numbers that rise stand once each

counted : {A : Type 0} (p : A → Bool) (x : A) (xs : List A) → count_by p (x ∷ xs) ≡ cond (p x) 1 0 + count_by p xs
counted p x xs = sum_by-cons (λ y. cond (p y) 1 0) x xs

-- one number more in front
one_number_more : (k m : ℕ) (ms : List ℕ) (b : Bool) → (m == k) ≡ b
    → count_by (λ z. z == k) (m ∷ ms) ≡ cond b 1 0 + count_by (λ z. z == k) ms
one_number_more k m ms b e = counted (λ z. z == k) m ms ∙ ap (λ c. cond c 1 0 + count_by (λ z. z == k) ms) e

none_more : (k m : ℕ) (ms : List ℕ) → k < m → count_by (λ z. z == k) ms ≡ 0 → (b : Bool) → (m == k) ≡ b
    → count_by (λ z. z == k) (m ∷ ms) ≡ 0
none_more k m ms low none true e = absurd (omega (arith, low, eqb-true m k e))
none_more k m ms low none false e = omega (arith, one_number_more k m ms false e, none)

none_above : (k n : ℕ) (ns : List ℕ) → k ≤ n → rise_after n ns ≡ true → count_by (λ m. m == k) ns ≡ 0
none_above k n [] low up = refl
none_above k n (m ∷ ms) low up =
    let more : n < m = ltb-true n m (first_of_both _ _ up) in
    none_more k m ms (omega (arith, more, low))
    (none_above k m ms (omega (arith, more, low)) (second_of_both _ _ up)) (m == k) refl

once_more : (k n : ℕ) (ns : List ℕ) → rise_after n ns ≡ true → count_by (λ m. m == k) ns ≤ 1 → (b : Bool)
    → (n == k) ≡ b → count_by (λ m. m == k) (n ∷ ns) ≤ 1
once_more k n ns up few true e =
    omega (arith, one_number_more k n ns true e, none_above k n ns (omega (arith, eqb-true n k e)) up)
once_more k n ns up few false e = omega (arith, one_number_more k n ns false e, few)

once_after : (k n : ℕ) (ns : List ℕ) → rise_after n ns ≡ true → count_by (λ m. m == k) (n ∷ ns) ≤ 1
once_after k n [] up =
    let none : count_by (λ (m : ℕ). m == k) [] ≡ 0 = refl in
    once_more k n [] up (omega (arith, none)) (n == k) refl
once_after k n (m ∷ ms) up = once_more k n (m ∷ ms) up (once_after k m ms (second_of_both _ _ up)) (n == k) refl

once_each : (k : ℕ) (ns : List ℕ) → rise ns ≡ true → count_by (λ m. m == k) ns ≤ 1
once_each k [] up =
    let none : count_by (λ (m : ℕ). m == k) [] ≡ 0 = refl in
    omega (arith, none)
once_each k (n ∷ ns) up = once_after k n ns up

of_numbers : (k : ℕ) (rs : List Record)
    → count_by (λ m. m == k) (numbers_of rs) ≡ count_by (λ (r : Record). r.number == k) rs
of_numbers k [] = refl
of_numbers k (r ∷ rs) =
    counted (λ m. m == k) r.number (numbers_of rs)
    ∙ ap (λ n. cond (r.number == k) 1 0 + n) (of_numbers k rs)
    ∙ sym (counted (λ (s : Record). s.number == k) r rs)

-- where the numbers, put in order, rise
pub each_once : (rs : List Record) (ns : List ℕ) → IsPermutation (numbers_of rs) ns → rise ns ≡ true → EachOnce rs
each_once rs ns mixed up k = omega (
  arith,
  of_numbers k rs,
  sum_by-IsPermutation (λ m. cond (m == k) 1 0) (numbers_of rs) ns mixed,
  once_each k ns up,
)

-- ---- and numbers that stand once each rise, put in order

stands_twice : (n : ℕ) (ns : List ℕ) → count_by (λ m. m == n) (n ∷ n ∷ ns) ≤ 1 → ⊥
stands_twice n ns few =
    let itself : (n == n) ≡ true = eq-eqb n n refl in
    omega (arith, few, one_number_more n n (n ∷ ns) true itself, one_number_more n n ns true itself)

no_more : (k m : ℕ) (ms : List ℕ) → count_by (λ z. z == k) (m ∷ ms) ≤ 1 → (b : Bool) → (m == k) ≡ b
    → count_by (λ z. z == k) ms ≤ 1
no_more k m ms few true e = omega (arith, few, one_number_more k m ms true e)
no_more k m ms few false e = omega (arith, few, one_number_more k m ms false e)

rises_after : (last : ℕ) (ns : List ℕ) → IsNonDecreasing (last ∷ ns)
    → ((k : ℕ) → count_by (λ m. m == k) (last ∷ ns) ≤ 1) → rise_after last ns ≡ true
rises_after last [] up once = refl
rises_after last (n ∷ ns) up once =
    let low : last ≤ n = up 0 1 0 (omega arith) (omega arith) in
    let rest = rises_after n ns (IsNonDecreasingBy-drop (λ m. m) 1 (last ∷ n ∷ ns) up)
    (λ k. no_more k last (n ∷ ns) (once k) (last == k) refl) in
    elim (cases_lt last n) [
      | inl less ↦ rw (lt-ltb last n less) rest
      | inr not ↦ let same : last ≡ n = omega arith in
          absurd (stands_twice n ns (subst (λ z. count_by (λ m. m == n) (z ∷ n ∷ ns) ≤ 1) same (once n)))
    ]

rises : (ns : List ℕ) → IsNonDecreasing ns → ((k : ℕ) → count_by (λ m. m == k) ns ≤ 1) → rise ns ≡ true
rises [] up once = refl
rises (n ∷ ns) up once = rises_after n ns up once

pub all_rise : (rs : List Record) (ns : List ℕ) → IsPermutation (numbers_of rs) ns → IsNonDecreasing ns
    → EachOnce rs → rise ns ≡ true
all_rise rs ns mixed up once = rises ns up (λ k. omega (
  arith,
  of_numbers k rs,
  sum_by-IsPermutation (λ m. cond (m == k) 1 0) (numbers_of rs) ns mixed,
  once k,
))

-- ---- what passes a test that at most one passes

to_all : {A : Type 0} (q : A → Bool) (P : A → Type 0) (xs : List A) → AllByRecursion P (filter q xs)
    → AllByRecursion (λ x. q x ≡ true → P x) xs
to_all q P [] all = tt
to_all {A} q P (x ∷ xs) all = at (to_all q P xs) (q x) refl all
  where
    at : (AllByRecursion P (filter q xs) → AllByRecursion (λ y. q y ≡ true → P y) xs) → (b : Bool) → q x ≡ b
        → AllByRecursion P (cond b (x ∷ filter q xs) (filter q xs)) → AllByRecursion (λ y. q y ≡ true → P y) (x ∷ xs)
    at rest true e all = ((λ t. all.0), rest all.1)
    at rest false e all = ((λ t. let no : true ≡ false = sym t ∙ e in absurd cc), rest all)

from_all : {A : Type 0} (q : A → Bool) (P : A → Type 0) (xs : List A) → AllByRecursion (λ x. q x ≡ true → P x) xs
    → AllByRecursion P (filter q xs)
from_all q P [] all = tt
from_all {A} q P (x ∷ xs) all = at (from_all q P xs all.1) (q x) refl
  where
    at : AllByRecursion P (filter q xs) → (b : Bool) → q x ≡ b
        → AllByRecursion P (cond b (x ∷ filter q xs) (filter q xs))
    at rest true e = (all.0 e, rest)
    at rest false e = rest

lone : {A : Type 0} (fs gs : List A) → length gs ≡ length fs → length fs ≤ 1
    → ((P : A → Type 0) → AllByRecursion P fs → AllByRecursion P gs) → gs ≡ fs
lone [] [] long few all = refl
lone [] (g ∷ gs) long few all = absurd (omega (arith, long))
lone (f ∷ []) [] long few all = absurd (omega (arith, long))
lone (f ∷ []) (g ∷ []) long few all = ap (λ x. x ∷ []) (all (λ x. x ≡ f) (refl, tt)).0
lone (f ∷ []) (g ∷ h ∷ gs) long few all = absurd (omega (arith, long))
lone (f ∷ e ∷ fs) gs long few all = absurd (omega (arith, few))

one_passes : {A : Type 0} (q : A → Bool) (xs ys : List A) → IsPermutation xs ys → count_by q xs ≤ 1
    → filter q ys ≡ filter q xs
one_passes q xs ys mixed few =
    let same : count_by q ys ≡ count_by q xs = sum_by-IsPermutation (λ x. cond (q x) 1 0) xs ys mixed in
    lone (filter q xs) (filter q ys) (length-filter q ys ∙ same ∙ sym (length-filter q xs))
    (omega (arith, length-filter q xs, few))
    (λ P all. from_all q P ys (recursion_from_All (λ x. q x ≡ true → P x) ys
    (All-permutation (λ x. q x ≡ true → P x) xs ys mixed
    (All-from_recursion (λ x. q x ≡ true → P x) xs (to_all q P xs all)))))

-- ---- two tests

both_tests : {A : Type 0} (t p : A → Bool) (xs : List A) → filter t (filter p xs) ≡ filter (λ x. p x && t x) xs
both_tests t p [] = refl
both_tests {A} t p (x ∷ xs) = at (both_tests t p xs) (p x)
  where
    at : filter t (filter p xs) ≡ filter (λ y. p y && t y) xs → (b : Bool)
        → filter t (cond b (x ∷ filter p xs) (filter p xs))
        ≡ cond (b && t x) (x ∷ filter (λ y. p y && t y) xs) (filter (λ y. p y && t y) xs)
    at rest true = ap (λ fs. cond (t x) (x ∷ fs) fs) rest
    at rest false = rest

fewer : {A : Type 0} (q t : A → Bool) → ((x : A) → q x ≡ true → t x ≡ true) → (xs : List A)
    → count_by q xs ≤ count_by t xs
fewer q t so [] = omega arith
fewer {A} q t so (x ∷ xs) = at (fewer q t so xs) (q x) refl
  where
    at : count_by q xs ≤ count_by t xs → (b : Bool) → q x ≡ b → count_by q (x ∷ xs) ≤ count_by t (x ∷ xs)
    at rest true e =
        omega (
          arith,
          counted q x xs ∙ ap (λ b. cond b 1 0 + count_by q xs) e,
          counted t x xs ∙ ap (λ b. cond b 1 0 + count_by t xs) (so x e),
          rest,
        )
    at rest false e =
        omega (arith, counted q x xs ∙ ap (λ b. cond b 1 0 + count_by q xs) e, counted t x xs, rest)

-- ---- the answer

abbrev lower : Record → Record → Bool
lower a b = is_lt (nat_cmp a.number b.number)

tied_number : (m n : ℕ) → ties (λ a b. is_lt (nat_cmp a b)) m n ≡ true → (n == m) ≡ true
tied_number m n t = grind arith

lower_order : IsStrictWeakOrder lower
lower_order = ranks_by nat_cmp_total (λ (r : Record). r.number)

-- of those that a test passes at most one has the number of this record
alike : (p : Record → Bool) (xs ys : List Record) → IsPermutation xs ys → EachOnce xs → (x : Record)
    → filter (ties lower x) (filter p ys) ≡ filter (ties lower x) (filter p xs)
alike p xs ys mixed once x =
    both_tests (ties lower x) p ys
    ∙ one_passes (λ y. p y && ties lower x y) xs ys mixed
    (omega (
      arith,
      once x.number,
      fewer (λ y. p y && ties lower x y) (λ y. y.number == x.number)
          (λ y t. tied_number x.number y.number (second_of_both (p y) (ties lower x y) t)) xs,
    ))
    ∙ sym (both_tests (ties lower x) p xs)

same_order : (p : Record → Bool) (xs ys : List Record) → IsPermutation xs ys → EachOnce xs
    → by_number (filter p ys) ≡ by_number (filter p xs)
same_order p xs ys mixed once =
    same_sorted lower lower_order (by_number (filter p ys)) (by_number (filter p xs))
    (sorted_rises lower lower_order (filter p ys)) (sorted_rises lower lower_order (filter p xs))
    (λ x. sorted_keeps lower lower_order x (filter p ys) ∙ alike p xs ys mixed once x
    ∙ sym (sorted_keeps lower lower_order x (filter p xs)))

pub one_answer : (w : Rectangle) (layers : ℕ) (xs ys : List Record) → IsPermutation xs ys → EachOnce xs
    → scan_shape (on_layers layers ys) (Window w) ≡ scan_shape (on_layers layers xs) (Window w)
unfolding scan_shape
one_answer w layers xs ys mixed once =
    let meets = λ (r : Record). touches w r.rect in
    ap by_number (both_tests meets (is_on layers) ys)
    ∙ same_order (λ r. is_on layers r && meets r) xs ys mixed once
    ∙ ap by_number (sym (both_tests meets (is_on layers) xs))
