-- The pages of the nodes of a tree: children before their parent they are the same as the other way
-- round.
use Rattle.std.proofs.Common.{◌≡◌, ℕ, Bool, true, false, List, [], ◌∷◌, ◌++◌, map, refl, sym, ap, subst, ◌∙◌}
use Rattle.std.specs.Prelude.{◌==◌, ◌||◌, Option, Some, None}
use Rattle.std.specs.List.{flat_map, AllByRecursion}
use Rattle.std.specs.Map.{keys_of}
use Rattle.std.proofs.lemmas.Bool.{or_parts, or_from, eq-eqb}
use Rattle.std.proofs.lemmas.List.{map-append}
use Rattle.mr_tree.specs.Nodes.{subtrees}
use Rattle.mr_tree.specs.declared.tree.Tree.{Tree}
use Rattle.mr_tree.specs.declared.tree.Tree.TheVariants as tree
use Rattle.mr_tree.proofs.Subtrees.{subtrees-Empty, subtrees-Leaf, subtrees-Inner}
use Rattle.mr_pages.specs.Stands.{Placed, Row, Leaf, Inner, no_more, first, tree_of, trees_of, pages_of, all_pages, page_of, whole_tree, whole_pages}
use Rattle.mr_pages.specs.Faults.{has}
use Rattle.mr_pages.proofs.Lists.{Fresh, has-append, all_has, fresh_append, fresh_left, fresh_right, fresh_new}
use Rattle.mr_store.specs.Parts.{parts, all_parts, whole_parts}

-- ---- the same pages

swapped : (a b : Bool) → (a || (b || false)) ≡ (b || a)
swapped true true = refl
swapped true false = refl
swapped false true = refl
swapped false false = refl

mutual
  pub has_parts : (q : ℕ) (P : Placed) → has q (keys_of (parts P)) ≡ has q (pages_of P)
  has_parts q (Leaf p rs) = refl
  has_parts q (Inner p Ps) =
      ap (has q) (map-append (λ (e : ℕ × Placed). e.0) (all_parts Ps) ((p, Inner p Ps) ∷ []))
      ∙ has-append q (keys_of (all_parts Ps)) (p ∷ [])
      ∙ ap (λ b. b || ((q == p) || false)) (has_row q Ps)
      ∙ swapped (has q (all_pages Ps)) (q == p)

  pub has_row : (q : ℕ) (Ps : Row) → has q (keys_of (all_parts Ps)) ≡ has q (all_pages Ps)
  has_row q no_more = refl
  has_row q (first P Ps) =
      ap (has q) (map-append (λ (e : ℕ × Placed). e.0) (parts P) (all_parts Ps))
      ∙ has-append q (keys_of (parts P)) (keys_of (all_parts Ps))
      ∙ (λ i. has_parts q P i || has_row q Ps i)
      ∙ sym (has-append q (pages_of P) (all_pages Ps))

-- ---- none of them twice

more : (b c : List ℕ) (x : ℕ) → ((n : ℕ) → has n c ≡ false → has n b ≡ false) →
    (n : ℕ) → has n (c ++ x ∷ []) ≡ false → has n (b ++ x ∷ []) ≡ false
more b c x sub n e =
    let p = or_parts (has n c) ((n == x) || false) (sym (has-append n c (x ∷ [])) ∙ e) in
    has-append n b (x ∷ []) ∙ or_from (has n b) ((n == x) || false) (sub n p.0) p.1

weaken : (b c xs : List ℕ) → ((n : ℕ) → has n c ≡ false → has n b ≡ false) → Fresh c xs → Fresh b xs
weaken b c [] sub f = tt
weaken b c (x ∷ xs) sub f = (sub x f.0, weaken (b ++ x ∷ []) (c ++ x ∷ []) xs (more b c x sub) f.1)

left_of : (b : List ℕ) (p n : ℕ) → has n (b ++ p ∷ []) ≡ false → has n b ≡ false
left_of b p n e = (or_parts (has n b) ((n == p) || false) (sym (has-append n b (p ∷ [])) ∙ e)).0

not_among : (b xs : List ℕ) (p : ℕ) → AllByRecursion (λ n. has n (b ++ p ∷ []) ≡ false) xs →
    has p xs ≡ false
not_among b xs p all = at (has p xs) refl
  where
    at : (t : Bool) → has p xs ≡ t → has p xs ≡ false
    at false e = e
    at true e =
        let q = or_parts (has p b) ((p == p) || false) (sym (has-append p b (p ∷ []))
        ∙ all_has (λ n. has n (b ++ p ∷ []) ≡ false) xs all p e) in
        let no : (p == p) ≡ false = (or_parts (p == p) false q.1).0 in
        let yes : (p == p) ≡ true = eq-eqb p p refl in cc

mutual
  pub post_fresh : (b : List ℕ) (P : Placed) → Fresh b (pages_of P) → Fresh b (keys_of (parts P))
  post_fresh b (Leaf p rs) f = f
  post_fresh b (Inner p Ps) f =
      let ks = keys_of (all_parts Ps) in
      let row : Fresh (b ++ p ∷ []) ks = post_row (b ++ p ∷ []) Ps f.1 in
      subst (Fresh b) (sym (map-append (λ (e : ℕ × Placed). e.0) (all_parts Ps) ((
        p,
        Inner p Ps,
      ) ∷ [])))
      (fresh_append b ks (p ∷ []) (weaken b (b ++ p ∷ []) ks (left_of b p) row) (
        has-append p b ks ∙ or_from (has p b) (has p ks) f.0 (not_among b ks p (fresh_new (b ++ p ∷
            []) ks row)),
        tt,
      ))

  pub post_row : (b : List ℕ) (Ps : Row) → Fresh b (all_pages Ps) → Fresh b (keys_of (all_parts Ps))
  post_row b no_more f = tt
  post_row b (first P Ps) f =
      let ks = keys_of (parts P) in
      subst (Fresh b) (sym (map-append (λ (e : ℕ × Placed). e.0) (parts P) (all_parts Ps)))
      (fresh_append b ks (keys_of (all_parts Ps))
      (post_fresh b P (fresh_left b (pages_of P) (all_pages Ps) f))
      (weaken (b ++ ks) (b ++ pages_of P) (keys_of (all_parts Ps))
      (λ n e. has-append n b ks ∙ ap (λ t. has n b || t) (has_parts n P) ∙
      sym (has-append n b (pages_of P)) ∙ e)
      (post_row (b ++ pages_of P) Ps (fresh_right b (pages_of P) (all_pages Ps) f))))

-- ---- the trees below them

abbrev pub below : ℕ × Placed → Tree
below e = tree_of e.1

mutual
  pub subtrees_of : (P : Placed) → map below (parts P) ≡ subtrees (tree_of P)
  subtrees_of (Leaf p rs) = sym (subtrees-Leaf rs)
  subtrees_of (Inner p Ps) =
      map-append below (all_parts Ps) ((p, Inner p Ps) ∷ [])
      ∙ (λ i. subtrees_row Ps i ++ tree.Inner (trees_of Ps) ∷ [])
      ∙ sym (subtrees-Inner (trees_of Ps))

  pub subtrees_row : (Ps : Row) → map below (all_parts Ps) ≡ flat_map subtrees (trees_of Ps)
  subtrees_row no_more = refl
  subtrees_row (first P Ps) =
      map-append below (parts P) (all_parts Ps) ∙ (λ i. subtrees_of P i ++ subtrees_row Ps i)

pub whole_subtrees : (po : Option Placed) → map below (whole_parts po) ≡ subtrees (whole_tree po)
whole_subtrees None = sym subtrees-Empty
whole_subtrees (Some P) = subtrees_of P

pub whole_has : (q : ℕ) (po : Option Placed) →
    has q (keys_of (whole_parts po)) ≡ has q (whole_pages po)
whole_has q None = refl
whole_has q (Some P) = has_parts q P

pub whole_fresh : (po : Option Placed) → Fresh [] (whole_pages po) →
    Fresh [] (keys_of (whole_parts po))
whole_fresh None f = tt
whole_fresh (Some P) f = post_fresh [] P f

-- ---- the last of them

-- those below a node
abbrev pub before_last : Placed → List (ℕ × Placed)
before_last (Leaf p rs) = []
before_last (Inner p Ps) = all_parts Ps

pub last_is : (P : Placed) → parts P ≡ before_last P ++ (page_of P, P) ∷ []
last_is (Leaf p rs) = refl
last_is (Inner p Ps) = refl
