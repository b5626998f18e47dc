-- The pairs that two sweeps find are all: of each pair that meets one entry begins first.
use Rattle.std.proofs.Common.{◌≡◌, ℕ, ◌+◌, ℤ, pos, ◌+ℤ◌, ◌≤ℤ◌, ◌<ℤ◌, Bool, true, false, cond, List, [], ◌∷◌, ◌++◌, map, refl, ap, ◌∙◌, inl, inr, arith}
use Rattle.std.specs.Prelude.{filter, int_lt, int_le, ◌&&◌}
use Rattle.std.specs.List.{flat_map, count_by, sum_by}
use Rattle.std.specs.List.Sorted.{IsPermutation}
use Rattle.std.proofs.lemmas.Bool.{cases_Bool}
use Rattle.std.proofs.lemmas.Float.{T_from_true}
use Rattle.std.proofs.lemmas.Int.{ints, by_lt_z}
use Rattle.std.proofs.lemmas.List.Sorted.{sum_by-IsPermutation}
use Rattle.std.proofs.lemmas.List.Sums.{sum_by-cons, sum_by-append}
use Rattle.mr_geom.specs.Rectangle.{Rectangle}
use Rattle.mr_geom.specs.Plane.{touches}
use Rattle.mr_geom.proofs.Rectangles.{true_from_T}
use Rattle.mr_join.specs.declared.entry.Entry.{Entry}
use Rattle.mr_join.specs.declared.pair.Pair.{Pair}
use Rattle.mr_join.specs.private.Pairing.{paired}
use Rattle.mr_join.specs.private.Pairing.{found_with, all_pairs}
use Rattle.mr_join.specs.private.Sweeping.{query_of, is_met, pair_by, found_for, FindsHalf}
use Rattle.mr_join.proofs.Counts.{sum_same, sum_both, sum_turned, moved_by_counts}

-- ---- how many pass a test

-- 1 where there is such a pair and it passes
abbrev one_if : (Pair → Bool) → Bool → Pair → ℕ
one_if t is p = cond is (cond (t p) 1 0) 0

-- of the pairs with those of a list that pass a test of their own
count_kept : (t : Pair → Bool) (keep : Entry → Bool) (make : Entry → Pair) (es : List Entry)
    → count_by t (map make (filter keep es)) ≡ sum_by (λ (e : Entry). one_if t (keep e) (make e)) es
count_kept t keep make [] = refl
count_kept t keep make (e ∷ es) = by_test (keep e) refl (count_kept t keep make es)
  where
    step : sum_by (λ (x : Entry). one_if t (keep x) (make x)) (e ∷ es)
        ≡ one_if t (keep e) (make e) + sum_by (λ (x : Entry). one_if t (keep x) (make x)) es
    step = sum_by-cons (λ (x : Entry). one_if t (keep x) (make x)) e es

    by_test : (b : Bool) → keep e ≡ b
        → count_by t (map make (filter keep es)) ≡ sum_by (λ (x : Entry). one_if t (keep x) (make x)) es
        → count_by t (map make (filter keep (e ∷ es)))
        ≡ sum_by (λ (x : Entry). one_if t (keep x) (make x)) (e ∷ es)
    by_test true k rest =
        let found : map make (filter keep (e ∷ es)) ≡ make e ∷ map make (filter keep es) = rw k refl in
        let here : one_if t (keep e) (make e) ≡ cond (t (make e)) 1 0 = ap (λ (b : Bool). one_if t b (make e)) k in
        let more = ap (count_by t) found
        ∙ sum_by-cons (λ (p : Pair). cond (t p) 1 0) (make e) (map make (filter keep es)) in
        omega (arith, step, here, more, rest)
    by_test false k rest =
        let found : map make (filter keep (e ∷ es)) ≡ map make (filter keep es) = rw k refl in
        let here : one_if t (keep e) (make e) ≡ 0 = ap (λ (b : Bool). one_if t b (make e)) k in
        let same = ap (count_by t) found in
        omega (arith, step, here, same, rest)

count_flat : (t : Pair → Bool) (f : Entry → List Pair) (es : List Entry)
    → count_by t (flat_map f es) ≡ sum_by (λ (e : Entry). count_by t (f e)) es
count_flat t f [] = refl
count_flat t f (e ∷ es) =
    let both = sum_by-append (λ (p : Pair). cond (t p) 1 0) (f e) (flat_map f es) in
    let step = sum_by-cons (λ (x : Entry). count_by t (f x)) e es in
    let rest = count_flat t f es in
    omega (arith, both, step, rest)

-- of all pairs, and of those that one sweep finds
abbrev of_all : (Pair → Bool) → Entry → Entry → ℕ
of_all t e f = one_if t (touches e.rect f.rect) (paired e.number f)

abbrev of_half : (Pair → Bool) → Bool → Entry → Entry → ℕ
of_half t turned e f = one_if t (is_met (query_of turned e) f) (pair_by (query_of turned e) f)

count_all : (t : Pair → Bool) (es fs : List Entry)
    → count_by t (all_pairs es fs) ≡ sum_by (λ (e : Entry). sum_by (λ (f : Entry). of_all t e f) fs) es
count_all t es fs =
    count_flat t (found_with fs) es
    ∙ sum_same (λ (e : Entry). count_by t (found_with fs e)) (λ (e : Entry). sum_by (λ (f : Entry). of_all t e f) fs)
    (λ e. count_kept t (λ (f : Entry). touches e.rect f.rect) (paired e.number) fs) es

count_half : (t : Pair → Bool) (turned : Bool) (held asked nodes queries : List Entry) → IsPermutation held nodes
    → IsPermutation asked queries → count_by t (flat_map (found_for turned nodes) queries)
    ≡ sum_by (λ (e : Entry). sum_by (λ (f : Entry). of_half t turned e f) held) asked
count_half t turned held asked nodes queries all_held all_asking =
    count_flat t (found_for turned nodes) queries
    ∙ sum_same (λ (e : Entry). count_by t (found_for turned nodes e))
    (λ (e : Entry). sum_by (λ (f : Entry). of_half t turned e f) held)
    (λ e. count_kept t (is_met (query_of turned e)) (pair_by (query_of turned e)) nodes
    ∙ sum_by-IsPermutation (λ (f : Entry). of_half t turned e f) held nodes all_held) queries
    ∙ sum_by-IsPermutation (λ (e : Entry). sum_by (λ (f : Entry). of_half t turned e f) held) asked queries all_asking

-- ---- one of the two begins first

and_turned : (a b : Bool) → (a && b) ≡ (b && a)
and_turned true true = refl
and_turned true false = refl
and_turned false true = refl
and_turned false false = refl

touches_turned : (r q : Rectangle) → touches r q ≡ touches q r
touches_turned r q =
    λ i. and_turned (int_le r.x0 q.x1) (int_le q.x0 r.x1) i && and_turned (int_le r.y0 q.y1) (int_le q.y0 r.y1) i

not_less : (x y : ℤ) → y ≤ℤ x → int_lt x y ≡ false
not_less x y up = elim (cases_Bool (int_lt x y)) [
  | inl t ↦ absurd (both (record { lt = T_from_true (int_lt x y) t }))
  | inr f ↦ f
]
  where
    both : x <ℤ y → ⊥
    both below = omega (arith, ints)

one_first : (t : Pair → Bool) (e f : Entry) → of_all t e f ≡ of_half t true e f + of_half t false f e
one_first t e f = by_lt_z f.rect.x0 e.rect.x0 second_first first_first
  where
    p : Pair
    p = record { first = e.number; second = f.number }

    turn : touches f.rect e.rect ≡ touches e.rect f.rect
    turn = touches_turned f.rect e.rect

    second_first : f.rect.x0 <ℤ e.rect.x0 → of_all t e f ≡ of_half t true e f + of_half t false f e
    second_first below =
        let late : (f.rect.x0 +ℤ pos 1) ≤ℤ e.rect.x0 = omega (arith, ints) in
        let one : of_half t true e f ≡ of_all t e f =
        rw (true_from_T (int_lt f.rect.x0 e.rect.x0) below.lt) refl in
        let other : of_half t false f e ≡ 0 = rw (not_less e.rect.x0 (f.rect.x0 +ℤ pos 1) late) refl in
        omega (arith, one, other)

    first_first : e.rect.x0 ≤ℤ f.rect.x0 → of_all t e f ≡ of_half t true e f + of_half t false f e
    first_first up =
        let before : e.rect.x0 <ℤ (f.rect.x0 +ℤ pos 1) = omega (arith, ints) in
        let one : of_half t true e f ≡ 0 = rw (not_less f.rect.x0 e.rect.x0 up) refl in
        let other : of_half t false f e ≡ of_all t e f =
        rw (true_from_T (int_lt e.rect.x0 (f.rect.x0 +ℤ pos 1)) before.lt, turn) refl in
        omega (arith, one, other)

count_both : (t : Pair → Bool) (es fs : List Entry)
    → sum_by (λ (e : Entry). sum_by (λ (f : Entry). of_all t e f) fs) es
    ≡ sum_by (λ (f : Entry). sum_by (λ (e : Entry). of_half t false f e) es) fs
    + sum_by (λ (e : Entry). sum_by (λ (f : Entry). of_half t true e f) fs) es
count_both t es fs =
    let each = sum_same (λ (e : Entry). sum_by (λ (f : Entry). of_all t e f) fs)
    (λ (e : Entry). sum_by (λ (f : Entry). of_half t true e f) fs + sum_by (λ (f : Entry). of_half t false f e) fs)
    (λ e. sum_same (λ (f : Entry). of_all t e f) (λ (f : Entry). of_half t true e f + of_half t false f e)
    (λ f. one_first t e f) fs ∙ sum_both (λ (f : Entry). of_half t true e f) (λ (f : Entry). of_half t false f e) fs)
    es in
    let both = sum_both (λ (e : Entry). sum_by (λ (f : Entry). of_half t true e f) fs)
    (λ (e : Entry). sum_by (λ (f : Entry). of_half t false f e) fs) es in
    let turned = sum_turned (λ (e f : Entry). of_half t false f e) es fs in
    omega (arith, each, both, turned)

pub both_halves : (es fs : List Entry) (none some all : List Pair) → none ≡ [] → FindsHalf false es fs none some
    → FindsHalf true fs es some all → IsPermutation (all_pairs es fs) all
both_halves es fs none some all start a b = moved_by_counts (all_pairs es fs) all (λ t.
    let whole = count_all t es fs ∙ count_both t es fs in
    let first = count_half t false es fs a.nodes a.queries a.all_held a.all_asking in
    let second = count_half t true fs es b.nodes b.queries b.all_held b.all_asking in
    let half : some ≡ flat_map (found_for false a.nodes) a.queries =
    a.found ∙ ap (λ (ps : List Pair). ps ++ flat_map (found_for false a.nodes) a.queries) start in
    let one = ap (count_by t) half in
    let other = ap (count_by t) b.found ∙ sum_by-append (λ (p : Pair). cond (t p) 1 0) some
    (flat_map (found_for true b.nodes) b.queries) in
    omega (arith, whole, first, second, one, other))
