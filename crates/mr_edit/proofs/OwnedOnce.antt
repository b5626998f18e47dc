-- Pages that are listed once each have one owner each, and the other way round.
use Rattle.std.proofs.Common.{◌≡◌, ◌≢◌, Bool, true, false, ℕ, zero, suc, ◌<◌, ◌≤◌, inl, inr, List, [], ◌∷◌, length, get_or, refl, sym, subst, arith, AllPairs}
use Rattle.std.specs.Prelude.{◌==◌, if◌then◌else◌, Contains}
use Rattle.std.proofs.lemmas.Bool.{eqb-true, cases_lt}
use Rattle.std.proofs.lemmas.List.Kept.{AllPairs-cons}
use Rattle.mr_pages.specs.Stands.{AreAllPages}
use Rattle.mr_edit.specs.PageMap.{OwnsEachOnce, count_in}
use Rattle.mr_edit.proofs.Frame.{times_first, times_rest}
use Rattle.mr_edit.proofs.Places.{times_cons, times_one, times_other, owned_within}

counted_at : (xs : List ℕ) (k p d : ℕ) → k < length xs → get_or xs k d ≡ p → 0 < count_in p xs
counted_at [] k p d within is = absurd (omega (arith, within))
counted_at (x ∷ xs) zero p d within is = subst (λ q. 0 < count_in q (x ∷ xs)) is (times_first x xs)
counted_at (x ∷ xs) (suc k) p d within is = times_rest p x xs (counted_at xs k p d (omega (arith, within)) is)

contains_times : (xs : List ℕ) (p : ℕ) → Contains xs p → 0 < count_in p xs
contains_times xs p c = counted_at xs c.0 p p c.1 c.2

times_contains : (xs : List ℕ) (p : ℕ) → 0 < count_in p xs → Contains xs p
times_contains [] p some = absurd (omega (arith, some))
times_contains (x ∷ xs) p some = at (x == p) refl some (times_contains xs p)
  where
    at : (b : Bool) → (x == p) ≡ b → 0 < (if b then suc (count_in p xs) else count_in p xs) → (0 < count_in p xs →
        Contains xs p) → Contains (x ∷ xs) p
    at true is h rest = (0, omega arith, eqb-true x p is)
    at false is h rest = let c = rest h in (suc c.0, omega (arith, c.1), c.2)

tail_apart : (x : ℕ) (xs : List ℕ) → AllPairs (λ (p q : ℕ). p ≢ q) (x ∷ xs) → AllPairs (λ (p q : ℕ). p ≢ q) xs
tail_apart x xs far = λ i j d low high. far (suc i) (suc j) d (omega arith) (omega arith)

none_again : (x : ℕ) (xs : List ℕ) → AllPairs (λ (p q : ℕ). p ≢ q) (x ∷ xs) → count_in x xs ≡ 0
none_again x xs far = elim (cases_lt 0 (count_in x xs)) [
  | inl some ↦ let c = times_contains xs x some in absurd (far 0 (suc c.0) x (omega arith) (omega (arith, c.1))
      (sym c.2))
  | inr none ↦ omega (arith, none)
]

once_times : (xs : List ℕ) → AllPairs (λ (p q : ℕ). p ≢ q) xs → (p : ℕ) → count_in p xs ≤ 1
once_times [] far p = omega arith
once_times (x ∷ xs) far p = at (x == p) refl (once_times xs (tail_apart x xs far) p)
  where
    at : (b : Bool) → (x == p) ≡ b → count_in p xs ≤ 1 → (if b then suc (count_in p xs) else count_in p xs) ≤ 1
    at true is h = let none : count_in p xs ≡ 0 = subst (λ q. count_in q xs ≡ 0) (eqb-true x p is)
        (none_again x xs far) in omega (arith, none)
    at false is h = h

times_once : (xs : List ℕ) → ((p : ℕ) → count_in p xs ≤ 1) → AllPairs (λ (p q : ℕ). p ≢ q) xs
times_once [] one = λ i j d low high. absurd (omega (arith, low, high))
times_once (x ∷ xs) one =
    AllPairs-cons (λ (p q : ℕ). p ≢ q) x xs
    (λ k d within same. absurd (omega (
      arith,
      one x,
      times_cons x x xs,
      times_one x,
      counted_at xs k x d within
          (sym same),
    )))
    (times_once xs (λ p. omega (arith, one p, times_cons p x xs)))

pub owned_of_all : (n : ℕ) (ps : List ℕ) → 0 < n → AreAllPages n ps → OwnsEachOnce n (0 ∷ ps)
owned_of_all n ps some all = record { each = each; none = none }
  where
    zero_none : count_in 0 ps ≡ 0
    zero_none = elim (cases_lt 0 (count_in 0 ps)) [
      | inl there ↦ absurd (omega (arith, ((all.each 0).0 (times_contains ps 0 there)).0))
      | inr gone ↦ omega (arith, gone)
    ]

    each : (q : ℕ) → q < n → count_in q (0 ∷ ps) ≡ 1
    each zero within = omega (arith, times_cons 0 0 ps, times_one 0, zero_none)
    each (suc q) within =
        let other : suc q ≢ 0 = λ same. omega (arith, same) in
        let there : 0 < count_in (suc q) ps = contains_times ps (suc q) ((all.each (suc q)).1 (omega arith, within)) in
        omega (arith, times_cons (suc q) 0 ps, times_other (suc q) 0 other, there, once_times ps all.once (suc q))

    none : (q : ℕ) → n ≤ q → count_in q (0 ∷ ps) ≡ 0
    none q past = elim (cases_lt 0 (count_in q ps)) [
      | inl there ↦ absurd (omega (arith, past, ((all.each q).0 (times_contains ps q there)).1))
      | inr gone ↦ let other : q ≢ 0 = λ same. omega (arith, same, past, some) in
          omega (arith, times_cons q 0 ps, times_other q 0 other, gone)
    ]

pub all_of_owned : (n : ℕ) (ps : List ℕ) → OwnsEachOnce n (0 ∷ ps) → AreAllPages n ps
all_of_owned n ps owned = record {
  each = λ p. (
    λ c.
        let there : 0 < count_in p ps = contains_times ps p c in
        let within : p < n = owned_within n p (0 ∷ ps) owned (times_rest p 0 ps there) in
        (positive p there, within),
    λ h.
        let other : p ≢ 0 = λ same. omega (arith, same, h.0) in
        times_contains ps p (omega (arith, owned.each p h.1, times_cons p 0 ps, times_other p 0 other)),
  );
  once = times_once ps (λ p. at_most p);
}
  where
    first_within : 0 < n
    first_within = owned_within n 0 (0 ∷ ps) owned (times_first 0 ps)

    positive : (p : ℕ) → 0 < count_in p ps → 0 < p
    positive zero there = absurd (omega (arith, there, owned.each 0 first_within, times_cons 0 0 ps, times_one 0))
    positive (suc p) there = omega arith

    at_most : (p : ℕ) → count_in p ps ≤ 1
    at_most p = elim (cases_lt p n) [
      | inl within ↦ omega (arith, owned.each p within, times_cons p 0 ps)
      | inr past ↦ omega (arith, owned.none p past, times_cons p 0 ps)
    ]
