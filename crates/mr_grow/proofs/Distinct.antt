-- Numbers that differ, in another order too, and a tree that stays well formed.
use Rattle.std.proofs.Common.{◌≡◌, ◌≢◌, ℕ, suc, ◌+◌, ◌^◌, ◌<◌, ◌≤◌, Bool, true, false, ◌||◌, List, [], ◌∷◌, length, refl, sym, subst, ◌∙◌, arith}
use Rattle.std.specs.Prelude.{All, AllPairs, ◌==◌, if◌then◌else◌}
use Rattle.std.specs.List.{AllByRecursion}
use Rattle.std.specs.List.Sorted.{IsPermutation}
use Rattle.std.proofs.lemmas.Bool.Decides.{nat_tests}
use Rattle.std.proofs.lemmas.List.Elements.{All-from_recursion, recursion_from_All}
use Rattle.std.proofs.lemmas.List.Kept.{AllPairs-cons}
use Rattle.std.proofs.lemmas.List.Sorted.{All-permutation, length_permutation, sum_by-IsPermutation}
use Rattle.mr_record.specs.Record.{IsRecord}
use Rattle.mr_record.specs.declared.record.Record.{Record}
use Rattle.mr_tree.specs.Tree.{records}
use Rattle.mr_tree.specs.WellFormed.{WellFormed}
use Rattle.mr_tree.specs.declared.tree.Tree.{Tree}
use Rattle.mr_split.proofs.Counts.{many, many_is}
use Rattle.mr_grow.specs.Found.{has, is_numbered}
use Rattle.mr_grow.specs.Grow.{ins}
use Rattle.mr_grow.proofs.Kept.{ins_mixes}
use Rattle.mr_grow.proofs.Sizes.{root_shallow, has_room, well_rooted}
use Rattle.mr_grow.proofs.Standing.{ins_root}

abbrev pub Apart : Record → Record → Type 0
Apart a b = a.number ≢ b.number

pub numbers_same : (r : Record) (n : ℕ) → is_numbered n r ≡ true → r.number ≡ n
numbers_same r n e = grind (arith, nat_tests, e)

pub numbers_differ : (r : Record) (n : ℕ) → is_numbered n r ≡ false → n ≢ r.number
numbers_differ r n e = λ same. let yes : is_numbered n r ≡ true = grind (arith, nat_tests, same) in differ
    (sym yes ∙ e)
  where
    differ : true ≡ false → ⊥
    differ c = cc

-- ---- no number stands twice

none_numbered : (n : ℕ) (rs : List Record) → AllByRecursion (λ (r : Record). n ≢ r.number) rs → many (is_numbered n)
    rs ≡ 0
none_numbered n [] all = refl
none_numbered n (r ∷ rs) all = at (is_numbered n r) refl (none_numbered n rs all.1)
  where
    at : (b : Bool) → is_numbered n r ≡ b → many (is_numbered n) rs ≡ 0 →
        (if b then 1 + many (is_numbered n) rs else many (is_numbered n) rs) ≡ 0
    at true e rest = absurd (all.0 (sym (numbers_same r n e)))
    at false e rest = rest

pub once : (rs : List Record) → AllPairs Apart rs → (n : ℕ) → many (is_numbered n) rs ≤ 1
once [] pairs n = omega arith
once (r ∷ rs) pairs n = at (is_numbered n r) refl
    (once rs (λ i j d h within. pairs (suc i) (suc j) d (omega (arith, h)) (omega (arith, within))) n)
  where
    later : AllByRecursion (λ (s : Record). r.number ≢ s.number) rs
    later = recursion_from_All (Apart r) rs (λ k d h. pairs 0 (suc k) d (omega arith) (omega (arith, h)))

    at : (b : Bool) → is_numbered n r ≡ b → many (is_numbered n) rs ≤ 1 →
        (if b then 1 + many (is_numbered n) rs else many (is_numbered n) rs) ≤ 1
    at true e rest = omega (
      arith,
      none_numbered n rs (subst (λ m. AllByRecursion (λ (s : Record). m ≢ s.number) rs)
          (numbers_same r n e) later),
    )
    at false e rest = rest

not_numbered : (n : ℕ) (rs : List Record) → many (is_numbered n) rs ≡ 0 → AllByRecursion
    (λ (r : Record). n ≢ r.number) rs
not_numbered n [] none = tt
not_numbered n (r ∷ rs) none = at (is_numbered n r) refl none (not_numbered n rs)
  where
    at : (b : Bool) → is_numbered n r ≡ b → (if b then 1 + many (is_numbered n) rs else many (is_numbered n) rs) ≡ 0 →
        (many (is_numbered n) rs ≡ 0 → AllByRecursion (λ (s : Record). n ≢ s.number) rs) → AllByRecursion
        (λ (s : Record). n ≢ s.number) (r ∷ rs)
    at true e none rest = absurd (omega (arith, none))
    at false e none rest = (numbers_differ r n e, rest none)

self : (n : ℕ) → (n == n) ≡ true
self n = grind (arith, nat_tests)

pub apart_of_once : (rs : List Record) → ((n : ℕ) → many (is_numbered n) rs ≤ 1) → AllPairs Apart rs
apart_of_once [] each = λ i j d h within. absurd (omega (arith, within))
apart_of_once (r ∷ rs) each =
    AllPairs-cons Apart r rs (All-from_recursion (Apart r) rs (not_numbered r.number rs (alone (each r.number))))
    (apart_of_once rs (λ n. fewer n (is_numbered n r) (each n)))
  where
    alone : (if r.number == r.number then 1 + many (is_numbered r.number) rs else many (is_numbered r.number) rs) ≤
        1 → many (is_numbered r.number) rs ≡ 0
    alone h =
        let more : 1 + many (is_numbered r.number) rs ≤ 1 = subst
        (λ b. (if b then 1 + many (is_numbered r.number) rs else many (is_numbered r.number) rs) ≤ 1)
        (self r.number) h in
        omega (arith, more)

    fewer : (n : ℕ) (b : Bool) → (if b then 1 + many (is_numbered n) rs else many (is_numbered n) rs) ≤ 1 → many
        (is_numbered n) rs ≤ 1
    fewer n true h = omega (arith, h)
    fewer n false h = h

same_counts : (p : Record → Bool) (xs ys : List Record) → IsPermutation xs ys → many p ys ≡ many p xs
same_counts p xs ys mix = many_is p ys ∙ sum_by-IsPermutation (λ x. if p x then 1 else 0) xs ys mix ∙ sym
    (many_is p xs)

pub apart_mixed : (xs ys : List Record) → IsPermutation xs ys → AllPairs Apart xs → AllPairs Apart ys
apart_mixed xs ys mix pairs = apart_of_once ys (λ n. omega (
  arith,
  same_counts (is_numbered n) xs ys mix,
  once xs pairs n,
))

none_has : (n : ℕ) (rs : List Record) → has n rs ≡ false → AllByRecursion (λ (r : Record). n ≢ r.number) rs
none_has n [] e = tt
none_has n (r ∷ rs) e = at (is_numbered n r) refl e (none_has n rs)
  where
    at : (b : Bool) → is_numbered n r ≡ b → (b || has n rs) ≡ false →
        (has n rs ≡ false → AllByRecursion (λ (s : Record). n ≢ s.number) rs) →
        AllByRecursion (λ (s : Record). n ≢ s.number) (r ∷ rs)
    at true is e rest = cc
    at false is e rest = (numbers_differ r n is, rest e)

pub apart_more : (one : Record) (rs : List Record) → has one.number rs ≡ false → AllPairs Apart rs → AllPairs Apart
    (one ∷ rs)
apart_more one rs e pairs = AllPairs-cons Apart one rs (All-from_recursion (Apart one) rs (none_has one.number rs e))
    pairs

all_more : (P : Record → Type 0) (one : Record) (rs : List Record) → P one → All P rs → All P (one ∷ rs)
all_more P one rs here all = All-from_recursion P (one ∷ rs) (here, recursion_from_All P rs all)

-- ---- an insertion keeps a tree well formed

pub ins_well_formed : (one : Record) (t : Tree) → WellFormed t → has one.number (records t) ≡ false → length
    (records t) < 2 ^ 20 → IsRecord one → WellFormed (ins one t)
ins_well_formed one t well absent room is_one =
    let root = well_rooted t well in
    let mix = ins_mixes one t (has_room t root) in
    let new = ins_root one t root in
    let few : length (records (ins one t)) ≤ 2 ^ 20 = omega (
      arith,
      length_permutation (one ∷ records t)
          (records (ins one t)) mix,
      room,
    ) in
    record {
      one_level = new.one_level;
      shallow = root_shallow (ins one t) new few;
      filled = new.filled;
      distinct = apart_mixed (one ∷ records t) (records (ins one t)) mix
          (apart_more one (records t) absent well.distinct);
      each = All-permutation IsRecord (one ∷ records t) (records (ins one t)) mix
          (all_more IsRecord one (records t) is_one well.each);
      few = few;
    }
