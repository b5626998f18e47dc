-- Lists with the same elements, by how often each test passes.
use Rattle.std.proofs.Common.{◌≡◌, ℕ, suc, ◌+◌, ◌<◌, Bool, true, false, cond, List, [], ◌∷◌, ◌++◌, length, refl, sym, ap, subst, inl, inr, arith}
use Rattle.std.specs.Prelude.{◌&&◌, ◌==◌}
use Rattle.std.specs.List.{count_by, sum_by}
use Rattle.std.specs.List.Sorted.{IsPermutation}
use Rattle.std.proofs.lemmas.Bool.{cases_Bool, and_parts, eqb-true, eq-eqb}
use Rattle.std.proofs.lemmas.List.Sorted.{IsPermutation-refl, IsPermutation-sym, IsPermutation-trans, IsPermutation-cons, IsPermutation-middle, sum_by-IsPermutation}
use Rattle.std.proofs.lemmas.List.Sums.{sum_by-cons}
use Rattle.mr_join.specs.declared.pair.Pair.{Pair}

-- ---- sums

pub sum_same : {A : Type 0} (f g : A → ℕ) → ((x : A) → f x ≡ g x) → (xs : List A) → sum_by f xs ≡ sum_by g xs
sum_same f g same [] = refl
sum_same f g same (x ∷ xs) =
    let here = same x in
    let rest = sum_same f g same xs in
    let one = sum_by-cons f x xs in
    let other = sum_by-cons g x xs in
    omega (arith, here, rest, one, other)

pub sum_none : {A : Type 0} (xs : List A) → sum_by (λ (x : A). 0) xs ≡ 0
sum_none [] = refl
sum_none {A} (x ∷ xs) =
    let step = sum_by-cons (λ (y : A). 0) x xs in let rest = sum_none xs in omega (arith, step, rest)

pub sum_both : {A : Type 0} (f g : A → ℕ) (xs : List A)
    → sum_by (λ (x : A). f x + g x) xs ≡ sum_by f xs + sum_by g xs
sum_both f g [] = refl
sum_both {A} f g (x ∷ xs) =
    let step = sum_by-cons (λ (y : A). f y + g y) x xs in
    let one = sum_by-cons f x xs in
    let other = sum_by-cons g x xs in
    let rest = sum_both f g xs in
    omega (arith, step, one, other, rest)

-- a table by rows and by columns
pub sum_turned : {A B : Type 0} (f : A → B → ℕ) (xs : List A) (ys : List B)
    → sum_by (λ (x : A). sum_by (λ (y : B). f x y) ys) xs ≡ sum_by (λ (y : B). sum_by (λ (x : A). f x y) xs) ys
sum_turned {A} {B} f [] ys = sym (sum_none ys)
sum_turned {A} {B} f (x ∷ xs) ys =
    let first = sum_by-cons (λ (z : A). sum_by (λ (y : B). f z y) ys) x xs in
    let rest = sum_turned f xs ys in
    let both = sum_both (λ (y : B). f x y) (λ (y : B). sum_by (λ (z : A). f z y) xs) ys in
    let each = sum_same (λ (y : B). sum_by (λ (z : A). f z y) (x ∷ xs))
    (λ (y : B). f x y + sum_by (λ (z : A). f z y) xs) (λ y. sum_by-cons (λ (z : A). f z y) x xs) ys in
    omega (arith, first, rest, both, each)

-- ---- a list with each pair as often as another

abbrev same_pair : Pair → Pair → Bool
same_pair p q = p.first == q.first && p.second == q.second

same_is : (p q : Pair) → same_pair p q ≡ true → p ≡ q
same_is p q same =
    let both = and_parts (p.first == q.first) (p.second == q.second) same in
    let first = eqb-true p.first q.first both.0 in
    let second = eqb-true p.second q.second both.1 in
    λ i. record { first = first i; second = second i }

same_itself : (p : Pair) → same_pair p p ≡ true
same_itself p = rw (eq-eqb p.first p.first refl, eq-eqb p.second p.second refl) refl

abbrev pub SameCounts : List Pair → List Pair → Type 0
SameCounts ps qs = (t : Pair → Bool) → count_by t ps ≡ count_by t qs

pub record Found (p : Pair) (ps : List Pair) : Type 0 where
  pub front : List Pair
  pub back : List Pair
  pub is : ps ≡ front ++ p ∷ back

-- one that is counted stands somewhere
counted_stands : (p : Pair) (ps : List Pair) → 0 < count_by (same_pair p) ps → Found p ps
counted_stands p [] some = absurd (none some)
  where
    none : 0 < 0 → ⊥
    none l = omega arith
counted_stands p (q ∷ qs) some = elim (cases_Bool (same_pair p q)) [
  | inl t ↦ record {
    front = [];
    back = qs;
    is = ap (λ (x : Pair). x ∷ qs) (sym (same_is p q t));
  }
  | inr f ↦ behind (counted_stands p qs (left f))
]
  where
    left : same_pair p q ≡ false → 0 < count_by (same_pair p) qs
    left f =
        let step = sum_by-cons (λ (x : Pair). cond (same_pair p x) 1 0) q qs in
        let none : ◌≡◌ {A = ℕ} (cond (same_pair p q) 1 0) 0 = ap (λ (b : Bool). cond {A = ℕ} b 1 0) f in
        omega (arith, step, none, some)

    behind : Found p qs → Found p (q ∷ qs)
    behind found = record {
      front = q ∷ found.front;
      back = found.back;
      is = ap (λ (xs : List Pair). q ∷ xs) found.is;
    }

all_counted : (ps : List Pair) → count_by (λ (p : Pair). true) ps ≡ length ps
all_counted [] = refl
all_counted (p ∷ ps) =
    let step = sum_by-cons (λ (x : Pair). 1) p ps in let rest = all_counted ps in omega (arith, step, rest)

pub moved_by_counts : (ps qs : List Pair) → SameCounts ps qs → IsPermutation ps qs
moved_by_counts [] [] same = IsPermutation-refl []
moved_by_counts [] (q ∷ qs) same =
    let long = same (λ p. true) in
    let all = all_counted (q ∷ qs) in
    absurd (below long all)
  where
    below : count_by (λ (p : Pair). true) [] ≡ count_by (λ (p : Pair). true) (q ∷ qs)
        → count_by (λ (p : Pair). true) (q ∷ qs) ≡ suc (length qs) → ⊥
    below e f = omega arith
moved_by_counts (p ∷ ps) qs same =
    by_place (λ rest same_rest. moved_by_counts ps rest same_rest) (counted_stands p qs stands)
  where
    stands : 0 < count_by (same_pair p) qs
    stands =
        let step = sum_by-cons (λ (x : Pair). cond (same_pair p x) 1 0) p ps in
        let one : ◌≡◌ {A = ℕ} (cond (same_pair p p) 1 0) 1 = ap (λ (b : Bool). cond {A = ℕ} b 1 0) (same_itself p) in
        let here = same (same_pair p) in
        omega (arith, step, one, here)

    by_place : ((rest : List Pair) → SameCounts ps rest → IsPermutation ps rest) → Found p qs
        → IsPermutation (p ∷ ps) qs
    by_place again found =
        let middle = IsPermutation-middle found.front p found.back in
        let fewer : SameCounts ps (found.front ++ found.back) = λ t.
        let whole = ap (count_by t) found.is in
        let moved = sum_by-IsPermutation (λ (x : Pair). cond (t x) 1 0) (found.front ++ p ∷ found.back)
        (p ∷ (found.front ++ found.back)) middle in
        let one = sum_by-cons (λ (x : Pair). cond (t x) 1 0) p ps in
        let other = sum_by-cons (λ (x : Pair). cond (t x) 1 0) p (found.front ++ found.back) in
        let all = same t in
        omega (arith, whole, moved, one, other, all) in
        subst (IsPermutation (p ∷ ps)) (sym found.is)
        (IsPermutation-trans (p ∷ ps) (p ∷ (found.front ++ found.back)) (found.front ++ p ∷ found.back)
        (IsPermutation-cons p ps (found.front ++ found.back) (again (found.front ++ found.back) fewer))
        (IsPermutation-sym (found.front ++ p ∷ found.back) (p ∷ (found.front ++ found.back)) middle))
