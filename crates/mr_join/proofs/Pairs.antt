-- Pairs in rising order: those that are found are all, in whatever order they were found.
use Rattle.std.proofs.Common.{◌≡◌, ℕ, ◌<◌, suc, Bool, true, false, cond, ltb, List, [], ◌∷◌, ◌++◌, map, replicate, refl, sym, ap, ◌∙◌, inl, inr, arith}
use Rattle.std.specs.Prelude.{filter, not, ◌&&◌}
use Rattle.std.specs.Cmp.{IsStrictWeakOrder, then_total, on_total, nat_cmp_total}
use Rattle.std.specs.List.{flat_map, count_by}
use Rattle.std.specs.List.Sorted.{IsPermutation, ties}
use Rattle.std.proofs.lemmas.Bool.{cases_Bool, cases_eq, false≢true, ltb-true, ltb-false, lt-ltb, le-ltb, eq-eqb}
use Rattle.std.proofs.lemmas.List.Sorted.{ranks_by, sum_by-IsPermutation}
use Rattle.std.proofs.lemmas.List.Sums.{sum_by-cons}
use Rattle.mr_geom.specs.Plane.{touches}
use Rattle.mr_record.specs.Sorting.{sorted_by}
use Rattle.mr_record.specs.declared.record.Record.{Record}
use Rattle.mr_record.proofs.Sorting.{same_sorted, sorted_rises, sorted_keeps}
use Rattle.mr_join.specs.declared.entry.Entry.{Entry}
use Rattle.mr_join.specs.declared.pair.Pair.{Pair}
use Rattle.mr_join.specs.Pairs.{pair_of, pairs_with, is_before, pairs_of}
use Rattle.mr_join.specs.private.Pairing.{entry_of, found_with, all_pairs}

pub pairs_order : IsStrictWeakOrder is_before
pairs_order =
    ranks_by (then_total (on_total (λ (p : Pair). p.first) nat_cmp_total)
    (on_total (λ (p : Pair). p.second) nat_cmp_total)) (λ (p : Pair). p)

-- ---- two pairs of which neither comes before the other are one

lower_first : (p q : Pair) → p.first < q.first → is_before p q ≡ true
lower_first p q lt = rw (lt-ltb p.first q.first lt) refl

lower_second : (p q : Pair) → p.first ≡ q.first → p.second < q.second → is_before p q ≡ true
lower_second p q same lt =
    rw (
      le-ltb p.first q.first (omega arith),
      eq-eqb p.first q.first same,
      lt-ltb p.second q.second lt,
    ) refl

same_number : (m n : ℕ) → (m < n → ⊥) → (n < m → ⊥) → m ≡ n
same_number m n low high = elim (cases_eq m n) [
  | inl e ↦ e
  | inr ne ↦ elim (cases_Bool (ltb m n)) [
    | inl t ↦ absurd (low (ltb-true m n t))
    | inr f ↦ let above = ltb-false m n f in absurd (high (omega arith))
  ]
]

first_true : (a b : Bool) → (not a && not b) ≡ true → a ≡ true → ⊥
first_true true b e t = false≢true e
first_true false b e t = false≢true t

second_true : (a b : Bool) → (not a && not b) ≡ true → b ≡ true → ⊥
second_true true b e t = false≢true e
second_true false true e t = false≢true e
second_true false false e t = false≢true t

tied_same : (p q : Pair) → ties is_before p q ≡ true → q ≡ p
tied_same p q tied =
    let first : p.first ≡ q.first = same_number p.first q.first
    (λ lt. first_true (is_before p q) (is_before q p) tied (lower_first p q lt))
    (λ lt. second_true (is_before p q) (is_before q p) tied (lower_first q p lt)) in
    let second : p.second ≡ q.second = same_number p.second q.second
    (λ lt. first_true (is_before p q) (is_before q p) tied (lower_second p q first lt))
    (λ lt. second_true (is_before p q) (is_before q p) tied (lower_second q p (sym first) lt)) in
    λ i. record { first = sym first i; second = sym second i }

passes : {A : Type 0} (t : A → Bool) (x : A) (xs : List A) → t x ≡ true → filter t (x ∷ xs) ≡ x ∷ filter t xs
passes t x xs e = rw e refl

fails : {A : Type 0} (t : A → Bool) (x : A) (xs : List A) → t x ≡ false → filter t (x ∷ xs) ≡ filter t xs
fails t x xs e = rw e refl

counts_one : {A : Type 0} (t : A → Bool) (x : A) (xs : List A) → t x ≡ true
    → count_by t (x ∷ xs) ≡ suc (count_by t xs)
counts_one t x xs e =
    let step = sum_by-cons (λ (y : _). cond (t y) 1 0) x xs in
    let one : ◌≡◌ {A = ℕ} (cond (t x) 1 0) 1 = ap (λ (b : Bool). cond {A = ℕ} b 1 0) e in
    omega (arith, step, one)

counts_none : {A : Type 0} (t : A → Bool) (x : A) (xs : List A) → t x ≡ false → count_by t (x ∷ xs) ≡ count_by t xs
counts_none t x xs e =
    let step = sum_by-cons (λ (y : _). cond (t y) 1 0) x xs in
    let none : ◌≡◌ {A = ℕ} (cond (t x) 1 0) 0 = ap (λ (b : Bool). cond {A = ℕ} b 1 0) e in
    omega (arith, step, none)

-- so what ties with one is that one so many times
tied_ones : (z : Pair) (ps : List Pair) → filter (ties is_before z) ps ≡ replicate (count_by (ties is_before z) ps) z
tied_ones z [] = refl
tied_ones z (p ∷ ps) = by_test (ties is_before z p) refl (tied_ones z ps)
  where
    by_test : (b : Bool) → ties is_before z p ≡ b
        → filter (ties is_before z) ps ≡ replicate (count_by (ties is_before z) ps) z
        → filter (ties is_before z) (p ∷ ps) ≡ replicate (count_by (ties is_before z) (p ∷ ps)) z
    by_test true e rest =
        let more : count_by (ties is_before z) (p ∷ ps) ≡ suc (count_by (ties is_before z) ps) =
        counts_one (ties is_before z) p ps e in
        rw more (passes (ties is_before z) p ps e ∙ λ i. tied_same z p e i ∷ rest i)
    by_test false e rest = rw (counts_none (ties is_before z) p ps e) (fails (ties is_before z) p ps e ∙ rest)

-- two lists with each pair as often are one in rising order
same_counts : (ps qs : List Pair) → ((z : Pair) → count_by (ties is_before z) ps ≡ count_by (ties is_before z) qs)
    → sorted_by is_before ps ≡ sorted_by is_before qs
same_counts ps qs same =
    same_sorted is_before pairs_order (sorted_by is_before ps) (sorted_by is_before qs)
    (sorted_rises is_before pairs_order ps) (sorted_rises is_before pairs_order qs)
    (λ z. sorted_keeps is_before pairs_order z ps ∙ tied_ones z ps
    ∙ ap (λ (n : ℕ). replicate n z) (same z) ∙ sym (tied_ones z qs) ∙ sym (sorted_keeps is_before pairs_order z qs))

-- ---- the pairs of entries are those of their records

same_found : (qs : List Record) (r : Record) → found_with (map entry_of qs) (entry_of r) ≡ pairs_with qs r
same_found [] r = refl
same_found (q ∷ qs) r = by_test (touches r.rect q.rect) refl (same_found qs r)
  where
    by_test : (b : Bool) → touches r.rect q.rect ≡ b
        → found_with (map entry_of qs) (entry_of r) ≡ pairs_with qs r
        → found_with (map entry_of (q ∷ qs)) (entry_of r) ≡ pairs_with (q ∷ qs) r
    by_test true m rest = rw m (ap (λ (ps : List Pair). pair_of r q ∷ ps) rest)
    by_test false m rest = rw m rest

same_pairs : (rs qs : List Record) → all_pairs (map entry_of rs) (map entry_of qs) ≡ flat_map (pairs_with qs) rs
same_pairs [] qs = refl
same_pairs (r ∷ rs) qs = λ i. same_found qs r i ++ same_pairs rs qs i

pub all_found : (rs qs : List Record) (es fs : List Entry) (ps : List Pair) → es ≡ map entry_of rs
    → fs ≡ map entry_of qs → IsPermutation (all_pairs es fs) ps → sorted_by is_before ps ≡ pairs_of rs qs
unfolding pairs_of
all_found rs qs es fs ps firsts seconds moved =
    same_counts ps (flat_map (pairs_with qs) rs)
    (λ z. sum_by-IsPermutation (λ (p : Pair). cond (ties is_before z p) 1 0) (all_pairs es fs) ps moved
    ∙ (λ i. count_by (ties is_before z) (all_pairs (firsts i) (seconds i)))
    ∙ ap (count_by (ties is_before z)) (same_pairs rs qs))
