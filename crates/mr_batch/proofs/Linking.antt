-- The last earlier place of each number.
use Rattle.std.proofs.Common.{◌≡◌, ℕ, zero, suc, ◌+◌, ◌<◌, ◌≤◌, ◌≢◌, Bool, true, false, eqb, List, [], ◌∷◌, ◌++◌, length, get_or, take, Option, Some, None, refl, sym, ap, subst, ◌∙◌, arith, ⊎_elim}
use Rattle.std.proofs.lemmas.Bool.{cases_eq, eq-eqb, ne_eqb}
use Rattle.std.proofs.lemmas.List.{get_or-map, get_or_append_left, get_or_at, take_more, length_push, get_or_default}
use Rattle.std.specs.Prelude.{slice_index, slice_index_or}
use Rattle.std.specs.Ordering.{nat_cmp, is_eq}
use Rattle.mr_batch.specs.declared.change.Change.{Change}
use Rattle.mr_batch.specs.Changes.{named, numbers}
use Rattle.mr_batch.specs.Earlier.{IsLastAt, IsLastBelow}
use Rattle.mr_batch.proofs.Numbered.{same_test}
use Rattle.mr_batch.specs.private.Presence.{adds, after, after_all}

-- ---- one place more

pub last_here : (i n : ℕ) (ns : List ℕ) → slice_index ns i ≡ n → IsLastBelow (i + 1) n ns (Some i)
last_here i n ns e = record { below = omega arith; here = e; last = λ k above below. absurd (omega arith) }

pub last_before : (i n : ℕ) (ns : List ℕ) (o : Option ℕ) → slice_index ns i ≢ n → IsLastBelow i n ns o →
    IsLastBelow (i + 1) n ns o
last_before i n ns None ne is =
    λ k below e. ⊎_elim (λ (same : k ≡ i). ne (ap (λ j. slice_index ns j) (sym same) ∙ e))
    (λ (other : k ≢ i). is k (omega arith) e) (cases_eq k i)
last_before i n ns (Some j) ne is = record {
  below = let low = is.below in omega arith;
  here = is.here;
  last = λ k above below e. ⊎_elim (λ (same : k ≡ i). ne (ap (λ j. slice_index ns j) (sym same) ∙ e))
      (λ (other : k ≢ i). is.last k above (omega arith) e) (cases_eq k i);
}

-- the last places after the place i is taken for its number m
pub IsLastBelow-after : (i m : ℕ) (ns : List ℕ) (old new : ℕ → Option ℕ) → slice_index ns i ≡ m →
    ((n : ℕ) → IsLastBelow i n ns (old n)) → new m ≡ Some i → ((n : ℕ) → n ≢ m → new n ≡ old n) → (n : ℕ) →
    IsLastBelow (i + 1) n ns (new n)
IsLastBelow-after i m ns old new here was at others n =
    ⊎_elim
    (λ (same : n ≡ m). subst (IsLastBelow (i + 1) n ns) (sym (ap new same ∙ at)) (last_here i n ns (here ∙ sym same)))
    (λ (other : n ≢ m).
    subst (IsLastBelow (i + 1) n ns) (sym (others n other))
    (last_before i n ns (old n) (λ e. other (sym e ∙ here)) (was n)))
    (cases_eq n m)

-- a number is not at the place of another
pub is_elsewhere : (m n : ℕ) → n ≢ m → is_eq (nat_cmp m n) ≡ false
is_elsewhere m n ne = same_test m n ∙ ne_eqb m n (λ e. ne (sym e))

pub number_at : (changes : List Change) (i : ℕ) (c : Change) → i < length changes → c ≡ get_or changes i c →
    slice_index (numbers changes) i ≡ named c
number_at changes i c low e = get_or-map named changes i c 0 low ∙ ap named (sym e)

-- the links of the places below the bound
pub record AreLinks (changes : List Change) (bound : ℕ) (links : List (Option ℕ)) : Type 0 where
  pub count : length links ≡ bound
  pub each : (i : ℕ) → i < bound
      → IsLastBelow i (slice_index (numbers changes) i) (numbers changes) (slice_index_or links i None)

pub AreLinks-push : (changes : List Change) (i : ℕ) (links : List (Option ℕ)) (o : Option ℕ)
    → AreLinks changes i links →
    IsLastBelow i (slice_index (numbers changes) i) (numbers changes) o → AreLinks changes (i + 1) (links ++ o ∷ [])
AreLinks-push changes i links o are is = record {
  count = let n = length_push links o in let m = are.count in omega arith;
  each = λ k below. ⊎_elim
      (λ (same : k ≡ i).
      subst (λ j. IsLastBelow j (slice_index (numbers changes) j) (numbers changes)
      (slice_index_or (links ++ o ∷ []) j None))
      (sym same)
      (subst (IsLastBelow i (slice_index (numbers changes) i) (numbers changes))
      (sym (get_or_at links o [] None i are.count)) is))
      (λ (other : k ≢ i).
      let low : k < i = omega arith in
      let m = are.count in
      let inside : k < length links = omega arith in
      subst (IsLastBelow k (slice_index (numbers changes) k) (numbers changes))
      (sym (get_or_append_left links (o ∷ []) None k inside)) (are.each k low))
      (cases_eq k i);
}

-- ---- what the last earlier change says

after_all-push : (has : ℕ → Bool) (cs : List Change) (c : Change) (n : ℕ) →
    after_all has (cs ++ c ∷ []) n ≡ after (after_all has cs) c n
after_all-push has [] c n = refl
after_all-push has (d ∷ cs) c n = after_all-push (after has d) cs c n

pub after_all-more : (has : ℕ → Bool) (cs : List Change) (i : ℕ) (c : Change) (n : ℕ) → i < length cs →
    c ≡ get_or cs i c → after_all has (take (i + 1) cs) n ≡ after (after_all has (take i cs)) c n
after_all-more has cs i c n low e =
    ap (λ ds. after_all has ds n) (take_more cs i c low ∙ ap (λ d. take i cs ++ d ∷ []) (sym e))
    ∙ after_all-push has (take i cs) c n

after_same : (has : ℕ → Bool) (c : Change) (n : ℕ) → named c ≡ n → after has c n ≡ adds c
after_same has c n e = let t : eqb (named c) n ≡ true = eq-eqb (named c) n e in rw t refl

after_other : (has : ℕ → Bool) (c : Change) (n : ℕ) → named c ≢ n → after has c n ≡ has n
after_other has c n ne = let t : eqb (named c) n ≡ false = ne_eqb (named c) n ne in rw t refl

number_below : (cs : List Change) (i : ℕ) (d : Change) → i < length cs → named (get_or cs i d)
    ≡ slice_index (numbers cs) i
number_below cs i d low = sym (get_or-map named cs i d 0 low)

-- no earlier change says anything of the number
pub after_all-none : (has : ℕ → Bool) (cs : List Change) (i n : ℕ) (d : Change) → i ≤ length cs →
    ((k : ℕ) → k < i → slice_index (numbers cs) k ≢ n) → after_all has (take i cs) n ≡ has n
after_all-none has cs zero n d low none = refl
after_all-none has cs (suc i) n d low none =
    let c : Change = get_or cs i d in
    let here : i < length cs = omega arith in
    let next : suc i ≡ i + 1 = omega arith in
    ap (λ j. after_all has (take j cs) n) next
    ∙ after_all-more has cs i c n here (get_or_default cs i d c here)
    ∙ after_other (after_all has (take i cs)) c n (λ e. none i (omega arith) (sym (number_below cs i d here) ∙ e))
    ∙ after_all-none has cs i n d (omega arith) (λ k below. none k (omega arith))

-- the last earlier change of the number says whether it is there
pub after_all-last : (has : ℕ → Bool) (cs : List Change) (i n j : ℕ) (d : Change) → i ≤ length cs →
    IsLastAt j i n (numbers cs) → after_all has (take i cs) n ≡ adds (get_or cs j d)
after_all-last has cs zero n j d low is = let below = is.below in absurd (omega arith)
after_all-last has cs (suc i) n j d low is =
    let c : Change = get_or cs i d in
    let here : i < length cs = omega arith in
    let next : suc i ≡ i + 1 = omega arith in
    let below = is.below in
    ap (λ k. after_all has (take k cs) n) next
    ∙ after_all-more has cs i c n here (get_or_default cs i d c here)
    ∙ ⊎_elim
    (λ (same : j ≡ i).
    after_same (after_all has (take i cs)) c n
    (number_below cs i d here ∙ ap (slice_index (numbers cs)) (sym same) ∙ is.here)
    ∙ ap (λ k. adds (get_or cs k d)) (sym same))
    (λ (other : j ≢ i).
    after_other (after_all has (take i cs)) c n
    (λ e. is.last i (omega arith) (omega arith) (sym (number_below cs i d here) ∙ e))
    ∙ after_all-last has cs i n j d (omega arith)
    (record { below = omega arith; here = is.here; last = λ k above low. is.last k above (omega arith) }))
    (cases_eq j i)
