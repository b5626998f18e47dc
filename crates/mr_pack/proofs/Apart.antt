-- Numbers differ in pairs where none stands twice.
use Rattle.std.proofs.Common.{◌≡◌, ◌≢◌, ℕ, suc, ◌≤◌, Bool, true, false, List, [], ◌∷◌, refl, sym, subst, ◌∙◌, arith}
use Rattle.std.specs.Prelude.{All, AllPairs, ◌==◌}
use Rattle.std.specs.List.{AllByRecursion}
use Rattle.std.proofs.lemmas.List.Elements.{All-nil, All-cons, recursion_from_All}
use Rattle.std.proofs.lemmas.List.Kept.{AllPairs-cons}
use borrow.Author.Tests.{eqb-true, eqb-false, eq-eqb}
use Rattle.mr_record.specs.declared.record.Record.{Record}
use Rattle.mr_pack.specs.Repeats.{occurrences, IsLeastTwice}
use Rattle.mr_pack.specs.Twice.{numbers_of}
use Rattle.mr_pack.proofs.Repeats.{more, same_more, other_more}

abbrev pub Apart : Record → Record → Type 0
Apart a b = a.number ≢ b.number

abbrev AreApart : List Record → Type 0
AreApart [] = Unit {0}
AreApart (r ∷ rs) = AllByRecursion (Apart r) rs × AreApart rs

apart_from : (rs : List Record) → AllPairs Apart rs → AreApart rs
apart_from [] pairs = tt
apart_from (r ∷ rs) pairs = (
  recursion_from_All (Apart r) rs (λ k d h. pairs 0 (suc k) d (omega arith) (omega arith)),
  apart_from rs (λ i j d h within. pairs (suc i) (suc j) d (omega arith) (omega arith)),
)

-- a number that no record has
absent : (m : ℕ) (rs : List Record) → AllByRecursion (λ (s : Record). m ≢ s.number) rs →
    occurrences m (numbers_of rs) ≡ 0
absent m [] all = refl
absent m (s ∷ ss) all = at (s.number == m) refl ∙ absent m ss all.1
  where
    at : (b : Bool) → (s.number == m) ≡ b → occurrences m (numbers_of (s ∷ ss)) ≡ occurrences m (numbers_of ss)
    at true e = absurd (all.0 (sym (eqb-true s.number m e)))
    at false e = other_more m s.number (numbers_of ss) e

at_most_once : (m : ℕ) (rs : List Record) → AreApart rs → occurrences m (numbers_of rs) ≤ 1
at_most_once m [] apart = omega arith
at_most_once m (r ∷ rs) apart = at (at_most_once m rs apart.1) (r.number == m) refl
  where
    at : occurrences m (numbers_of rs) ≤ 1 → (b : Bool) → (r.number == m) ≡ b → occurrences m (numbers_of (r ∷ rs)) ≤ 1
    at once true e = omega (
      arith,
      same_more m r.number (numbers_of rs) e,
      absent m rs
          (subst (λ k. AllByRecursion (λ (s : Record). k ≢ s.number) rs) (eqb-true r.number m e) apart.0),
    )
    at once false e = omega (arith, other_more m r.number (numbers_of rs) e, once)

pub each_once : (rs : List Record) → AllPairs Apart rs → (m : ℕ) → occurrences m (numbers_of rs) ≤ 1
each_once rs pairs m = at_most_once m rs (apart_from rs pairs)

pub never_twice : (m : ℕ) (rs : List Record) → AllPairs Apart rs → IsLeastTwice m (numbers_of rs) → ⊥
never_twice m rs pairs least = absurd (omega (arith, least.twice, each_once rs pairs m))

-- ---- and the other way about

none_has : (n : ℕ) (rs : List Record) → occurrences n (numbers_of rs) ≡ 0 → All (λ (r : Record). n ≢ r.number) rs
none_has n [] none = All-nil (λ (r : Record). n ≢ r.number)
none_has n (r ∷ rs) none =
    All-cons (λ (s : Record). n ≢ s.number) r rs (here (r.number == n) refl)
    (none_has n rs (omega (arith, none, more n r.number (numbers_of rs))))
  where
    here : (b : Bool) → (r.number == n) ≡ b → n ≢ r.number
    here true e = λ same. omega (arith, none, same_more n r.number (numbers_of rs) e)
    here false e = λ same. eqb-false r.number n e (sym same)

pub numbers_differ : (rs : List Record) → ((n : ℕ) → occurrences n (numbers_of rs) ≤ 1) → AllPairs Apart rs
numbers_differ [] few = λ i j d low high. absurd (omega (arith, low, high))
numbers_differ (r ∷ rs) few =
    let none : occurrences r.number (numbers_of rs) ≡ 0 =
    omega (arith, few r.number, same_more r.number r.number (numbers_of rs) (eq-eqb r.number r.number refl)) in
    AllPairs-cons Apart r rs (none_has r.number rs none)
    (numbers_differ rs (λ n. omega (arith, few n, more n r.number (numbers_of rs))))
