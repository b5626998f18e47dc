-- A sweep: its first tree, and how one query follows on another.
use Rattle.std.proofs.Common.{◌≡◌, ℕ, zero, suc, ◌+◌, ◌<◌, ◌≤◌, ℤ, ◌≤ℤ◌, ◌<ℤ◌, Bool, true, List, [], ◌∷◌, ◌++◌, length, get_or, take, map, refl, sym, ap, subst, ◌∙◌, arith}
use Rattle.std.specs.Prelude.{int_lt}
use Rattle.std.specs.Ordering.{int_cmp, is_lt}
use Rattle.std.specs.Cmp.{IsStrictWeakOrder}
use Rattle.std.specs.List.{AllByRecursion, flat_map}
use Rattle.std.specs.List.Sorted.{IsPermutation, IsSortedByKey}
use Rattle.std.proofs.lemmas.Bool.{false≢true}
use Rattle.std.proofs.lemmas.Cmp.{int_cmp_total}
use Rattle.std.proofs.lemmas.Int.{ints, by_lt_z}
use Rattle.std.proofs.lemmas.List.{take_more, flat_map_more, get_or_default}
use Rattle.std.proofs.lemmas.List.Elements.{All-from_recursion, recursion_from_All}
use Rattle.std.proofs.lemmas.List.Sorted.{ranks_by, sorted_far, IsPermutation-map, All-permutation}
use Rattle.mr_geom.proofs.Rectangles.{true_from_T}
use Rattle.mr_join.specs.declared.entry.Entry.{Entry}
use Rattle.mr_join.specs.declared.pair.Pair.{Pair}
use Rattle.mr_join.specs.declared.query.Query.{Query}
use Rattle.mr_join.specs.declared.searching.Node.{Node}
use Rattle.mr_join.specs.private.Sweeping.{query_of, found_by, found_for, AllWithin, IsTreeTo, IsTree, IsFresh, Rises, own_entry}
use Rattle.mr_join.proofs.Trees.{not_due, tree_later}

-- ---- the first tree

all_left : {A : Type 0} (P : A → Type 0) (xs ys : List A) → AllByRecursion P (xs ++ ys) → AllByRecursion P xs
all_left P [] ys all = tt
all_left P (x ∷ xs) ys all = (all.0, all_left P xs ys all.1)

all_right : {A : Type 0} (P : A → Type 0) (xs ys : List A) → AllByRecursion P (xs ++ ys) → AllByRecursion P ys
all_right P [] ys all = all
all_right P (x ∷ xs) ys all = all_right P xs ys all.1

all_fresh : (x : ℤ) (n : Node) → IsFresh n → (ms : List Node) → AllByRecursion IsFresh ms → AllWithin x n.bounds ms
all_fresh x n fresh [] all = tt
all_fresh x n fresh (m ∷ ms) all =
    let due = fresh.due in
    let left = all.0.left in
    let late : n.bounds.due ≤ℤ m.entry.rect.x0 = omega (arith, ints) in
    (not_due x n.bounds m.entry late, all_fresh x n fresh ms all.1)

fresh_tree_to : (x : ℤ) (d : ℕ) (ns : List Node) → AllByRecursion IsFresh ns → IsTreeTo x d ns
fresh_tree_to x zero ns all = tt
fresh_tree_to x (suc d) ns all = λ front n back same half.
    let parts : AllByRecursion IsFresh (front ++ n ∷ back) = subst (AllByRecursion IsFresh) same all in
    let right = all_right IsFresh front (n ∷ back) parts in (
      all_fresh x n right.0 ns all,
      fresh_tree_to x d front (all_left IsFresh front (n ∷ back) parts),
      fresh_tree_to x d back right.1,
    )

pub moved_tree : (ns ms : List Node) → IsPermutation ns ms → AllByRecursion IsFresh ns → (x : ℤ) → IsTree x ms
moved_tree ns ms moved all x d =
    fresh_tree_to x d ms
    (recursion_from_All IsFresh ms (All-permutation IsFresh ns ms moved (All-from_recursion IsFresh ns all)))

pub moved_entries : (es : List Entry) (ns ms : List Node) → map own_entry ns ≡ es → IsPermutation ns ms
    → IsPermutation es (map own_entry ms)
moved_entries es ns ms same moved =
    subst (λ (fs : List Entry). IsPermutation fs (map own_entry ms)) same (IsPermutation-map own_entry ns ms moved)

pub fresh_more : (ns : List Node) (n : Node) → AllByRecursion IsFresh ns → IsFresh n
    → AllByRecursion IsFresh (ns ++ n ∷ [])
fresh_more [] n all fresh = (fresh, tt)
fresh_more (m ∷ ms) n all fresh = (all.0, fresh_more ms n all.1 fresh)

pub entries_more : (i : ℕ) (es : List Entry) (e : Entry) (ns : List Node) (n : Node) → i < length es → e ≡ get_or es i e
    → map own_entry ns ≡ take i es → n.entry ≡ e → map own_entry (ns ++ n ∷ []) ≡ take (i + 1) es
entries_more i es e ns n low is so own =
    behind ns ∙ (λ j. so j ++ own j ∷ []) ∙ ap (λ (x : Entry). take i es ++ x ∷ []) is ∙ sym (take_more es i e low)
  where
    behind : (ms : List Node) → map own_entry (ms ++ n ∷ []) ≡ map own_entry ms ++ n.entry ∷ []
    behind [] = refl
    behind (m ∷ ms) = ap (λ (fs : List Entry). m.entry ∷ fs) (behind ms)

-- ---- queries in rising order

pub rises : (es : List Entry) → IsSortedByKey (λ (e : Entry). e.rect.x0) int_cmp es → Rises es
rises es sorted = λ i j d up low.
    by_lt_z (get_or es j d).rect.x0 (get_or es i d).rect.x0
    (λ below. absurd (false≢true (sym (sorted_far lt order es sorted i j d up low)
    ∙ less (get_or es j d) (get_or es i d) below)))
    (λ same. same)
  where
    lt : Entry → Entry → Bool
    lt e f = is_lt (int_cmp e.rect.x0 f.rect.x0)

    order : IsStrictWeakOrder lt
    order = ranks_by int_cmp_total (λ (e : Entry). e.rect.x0)

    less : (e f : Entry) → e.rect.x0 <ℤ f.rect.x0 → lt e f ≡ true
    less e f below = rw (true_from_T (int_lt e.rect.x0 f.rect.x0) below.lt) refl

pub query_tree : (turned : Bool) (q : Query) (i : ℕ) (es : List Entry) (e : Entry) (ns : List Node)
    → q ≡ query_of turned e → e ≡ get_or es i e → IsTree (get_or es i e).rect.x0 ns → IsTree q.rect.x0 ns
query_tree turned q i es e ns asks is tree =
    let same : (get_or es i e).rect.x0 ≡ q.rect.x0 =
    ap (λ (f : Entry). f.rect.x0) (sym is) ∙ ap (λ (p : Query). p.rect.x0) (sym asks) in
    subst (λ (x : ℤ). IsTree x ns) same tree

pub found_more : (turned : Bool) (q : Query) (i : ℕ) (es : List Entry) (e : Entry) (fs gs : List Entry)
    (old mid new : List Pair) → q ≡ query_of turned e → e ≡ get_or es i e → i < length es → gs ≡ fs
    → mid ≡ old ++ flat_map (found_for turned fs) (take i es) → new ≡ mid ++ found_by gs q
    → new ≡ old ++ flat_map (found_for turned fs) (take (i + 1) es)
found_more turned q i es e fs gs old mid new asks is low same so here =
    here ∙ (λ j. so j ++ found_by (same j) (asks j))
    ∙ flat_map_more (found_for turned fs) old (take i es) e
    ∙ ap (λ (xs : List Entry). old ++ flat_map (found_for turned fs) xs)
    (ap (λ (x : Entry). take i es ++ x ∷ []) is ∙ sym (take_more es i e low))

pub tree_more : (turned : Bool) (q : Query) (i : ℕ) (es : List Entry) (e : Entry) (ns : List Node) → Rises es
    → q ≡ query_of turned e → e ≡ get_or es i e → i < length es → IsTree q.rect.x0 ns → (k : ℕ) (d : Entry)
    → i + 1 ≤ k → k < length es → IsTree (get_or es k d).rect.x0 ns
tree_more turned q i es e ns up asks is low tree k d behind within =
    let here : e ≡ get_or es i d = is ∙ get_or_default es i e d low in
    let same : q.rect.x0 ≡ (get_or es i d).rect.x0 =
    ap (λ (p : Query). p.rect.x0) asks ∙ ap (λ (f : Entry). f.rect.x0) here in
    let before : i ≤ k = omega arith in
    tree_later q.rect.x0 (get_or es k d).rect.x0 ns
    (subst (λ (x : ℤ). x ≤ℤ (get_or es k d).rect.x0) (sym same) (up i k d before within)) tree
