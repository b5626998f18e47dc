-- The first repeat of a rising list is the least number that stands twice.
use Rattle.std.proofs.Common.{◌≡◌, ℕ, suc, ◌+◌, ◌<◌, ◌≤◌, Bool, true, false, cond, List, [], ◌∷◌, refl, sym, ap, subst, ◌∙◌, arith}
use Rattle.std.specs.Prelude.{Option, Some, None, MatchOption, ◌==◌}
use Rattle.std.specs.List.{AllByRecursion}
use Rattle.std.specs.List.Sorted.{IsPermutation, IsNonDecreasing}
use Rattle.std.proofs.lemmas.List.Elements.{recursion_from_All}
use Rattle.std.proofs.lemmas.List.Sums.{sum_by-cons, count_by-le-length}
use Rattle.std.proofs.lemmas.List.Sorted.{sum_by-IsPermutation}
use borrow.Author.Tests.{eqb-true, eqb-false, eq-eqb}
use Rattle.mr_pack.specs.Repeats.{occurrences, repeat_after, IsLeastTwice}

-- no number is below an earlier one
abbrev pub Grows : List ℕ → Type 0
Grows [] = Unit {0}
Grows (n ∷ ns) = AllByRecursion (λ m. n ≤ m) ns × Grows ns

pub grows_from : (ns : List ℕ) → IsNonDecreasing ns → Grows ns
grows_from [] far = tt
grows_from (n ∷ ns) far = (
  recursion_from_All (λ m. n ≤ m) ns (λ k d within. far 0 (suc k) d (omega arith) (omega arith)),
  grows_from ns (λ i j d p q. far (suc i) (suc j) d (omega arith) (omega arith)),
)

-- how often a number stands in a list with one more
occurrences-cons : (k n : ℕ) (ns : List ℕ) → occurrences k (n ∷ ns) ≡ cond (n == k) 1 0 + occurrences k ns
occurrences-cons k n ns = sum_by-cons (λ m. cond (m == k) 1 0) n ns

pub same_more : (k n : ℕ) (ns : List ℕ) → (n == k) ≡ true → occurrences k (n ∷ ns) ≡ 1 + occurrences k ns
same_more k n ns e = occurrences-cons k n ns ∙ ap (λ b. cond b 1 0 + occurrences k ns) e

pub other_more : (k n : ℕ) (ns : List ℕ) → (n == k) ≡ false → occurrences k (n ∷ ns) ≡ occurrences k ns
other_more k n ns e =
    let zero_more : 0 + occurrences k ns ≡ occurrences k ns = omega arith in
    occurrences-cons k n ns ∙ ap (λ b. cond b 1 0 + occurrences k ns) e ∙ zero_more

none_of : (k : ℕ) (ns : List ℕ) → AllByRecursion (λ m. k < m) ns → occurrences k ns ≡ 0
none_of k [] all = refl
none_of k (n ∷ ns) all = apart (n == k) refl ∙ none_of k ns all.1
  where
    apart : (b : Bool) → (n == k) ≡ b → occurrences k (n ∷ ns) ≡ occurrences k ns
    apart true e = absurd (omega (arith, eqb-true n k e, all.0))
    apart false e = other_more k n ns e

all_above : (k n : ℕ) (ns : List ℕ) → k < n → AllByRecursion (λ m. n ≤ m) ns → AllByRecursion (λ m. k < m) ns
all_above k n [] low all = tt
all_above k n (m ∷ ms) low all = (omega (arith, all.0), all_above k n ms low all.1)

-- one more in front that is below all others
once_more : (m n : ℕ) (rest : List ℕ) → AllByRecursion (λ k. n < k) rest → occurrences m rest ≤ 1 →
    occurrences m (n ∷ rest) ≤ 1
once_more m n rest below few = at (n == m) refl
  where
    at : (b : Bool) → (n == m) ≡ b → occurrences m (n ∷ rest) ≤ 1
    at true e = omega (
      arith,
      same_more m n rest e,
      subst (λ k. occurrences k rest ≡ 0) (eqb-true n m e)
          (none_of n rest below),
    )
    at false e = omega (arith, other_more m n rest e)

pub more : (k n : ℕ) (rest : List ℕ) → occurrences k rest ≤ occurrences k (n ∷ rest)
more k n rest = omega (arith, occurrences-cons k n rest)

-- what a search for a repeat tells of a list
abbrev pub Tells : Option ℕ → List ℕ → Type 0
Tells r ns = MatchOption r ((n : ℕ) → occurrences n ns ≤ 1) (λ n. IsLeastTwice n ns)

lifted : (r : Option ℕ) (n : ℕ) (rest : List ℕ) → AllByRecursion (λ k. n < k) rest → Tells r rest → Tells r (n ∷ rest)
lifted None n rest below tells = λ m. once_more m n rest below (tells m)
lifted (Some k) n rest below tells = record {
  twice = omega (arith, more k n rest, tells.twice);
  least = λ m low. once_more m n rest below (tells.least m low);
}

repeat_tells : (n : ℕ) (ns : List ℕ) → Grows (n ∷ ns) → Tells (repeat_after n ns) (n ∷ ns)
repeat_tells n [] up = λ m. count_by-le-length (λ k. k == m) (n ∷ [])
repeat_tells n (m ∷ ms) up = at (repeat_tells m ms up.1) (m == n) refl
  where
    itself : (n == n) ≡ true
    itself = eq-eqb n n refl

    twice_here : (m == n) ≡ true → 2 ≤ occurrences n (n ∷ m ∷ ms)
    twice_here e = omega (arith, same_more n n (m ∷ ms) itself, same_more n m ms e)

    at : Tells (repeat_after m ms) (m ∷ ms) → (b : Bool) → (m == n) ≡ b →
        Tells (cond b (Some n) (repeat_after m ms)) (n ∷ m ∷ ms)
    at later true e = record {
      twice = twice_here e;
      least = λ k low. omega (arith, none_of k (n ∷ m ∷ ms) (low, all_above k n (m ∷ ms) low up.0));
    }
    at later false e =
        let apart : n < m = omega (arith, up.0.0, eqb-false m n e) in
        lifted (repeat_after m ms) n (m ∷ ms) (apart, all_above n m ms apart up.1.0) later

-- of a rising list
pub tells_of_rising : (first : ℕ) (others ns : List ℕ) (r : Option ℕ) → IsNonDecreasing ns → ns ≡ first ∷ others →
    r ≡ repeat_after first others → Tells r ns
tells_of_rising first others ns r up is same =
    subst (λ ms. Tells r ms) (sym is)
    (subst (λ q. Tells q (first ∷ others)) (sym same) (repeat_tells first others (subst Grows is (grows_from ns up))))

-- a list with the same numbers tells the same
pub tells_of_mixed : (r : Option ℕ) (ns ms : List ℕ) → IsPermutation ns ms → Tells r ms → Tells r ns
tells_of_mixed None ns ms mixed tells =
    λ n. subst (λ k. k ≤ 1) (sum_by-IsPermutation (λ m. cond (m == n) 1 0) ns ms mixed) (tells n)
tells_of_mixed (Some k) ns ms mixed tells = record {
  twice = subst (λ n. 2 ≤ n) (sum_by-IsPermutation (λ m. cond (m == k) 1 0) ns ms mixed) tells.twice;
  least = λ n low. subst (λ q. q ≤ 1) (sum_by-IsPermutation (λ m. cond (m == n) 1 0) ns ms mixed) (tells.least n low);
}
