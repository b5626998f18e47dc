-- The number of pages: each has one owner, and a node has one page.
use Rattle.std.proofs.Common.{◌≡◌, ◌≢◌, inl, inr, ℕ, zero, suc, ◌+◌, ◌<◌, ◌≤◌, List, [], ◌∷◌, ◌++◌, length, map, refl, sym, ap, ◌∙◌, arith}
use Rattle.std.specs.Prelude.{sum, max, Option, Some, None}
use Rattle.std.proofs.lemmas.Bool.{cases_lt}
use Rattle.std.proofs.lemmas.List.{length-append}
use Rattle.std.proofs.lemmas.List.Sums.{sum_by-cons}
use Rattle.mr_tree.specs.Digest.{Scheme}
use Rattle.mr_tree.specs.Tree.{nodes, nodes_step}
use Rattle.mr_tree.specs.declared.child.Child.{Child}
use Rattle.mr_tree.specs.declared.tree.Tree.{Tree}
use Rattle.mr_tree.proofs.Folds.{fold-Empty, fold-Leaf, fold-Inner}
use Rattle.mr_pages.specs.Stands.{Placed, Row, Leaf, Inner, no_more, first, tree_of, trees_of, pages_of, all_pages, whole_tree, whole_pages}
use Rattle.mr_edit.specs.PageMap.{PageMap, OwnsEachOnce, count_in}
use Rattle.mr_edit.specs.Outcome.{UsesPages}
use Rattle.mr_edit.specs.Drafted.{Drafted}
use Rattle.mr_edit.proofs.Places.{times_cons, times_one, times_other}

total : ℕ → List ℕ → ℕ
total zero xs = 0
total (suc n) xs = total n xs + count_in n xs

total_none : (n : ℕ) → total n [] ≡ 0
unfolding total
total_none zero = refl
total_none (suc n) = omega (arith, total_none n)

total_past : (n x : ℕ) (xs : List ℕ) → n ≤ x → total n (x ∷ xs) ≡ total n xs
unfolding total
total_past zero x xs past = refl
total_past (suc n) x xs past = let other : n ≢ x = λ same. omega (arith, past, same) in
    omega (arith, total_past n x xs (omega (arith, past)), times_cons n x xs, times_other n x other)

total_within : (n x : ℕ) (xs : List ℕ) → x < n → total n (x ∷ xs) ≡ suc (total n xs)
unfolding total
total_within zero x xs within = absurd (omega (arith, within))
total_within (suc n) x xs within = elim (cases_lt x n) [
  | inl below ↦ let other : n ≢ x = λ same. omega (arith, below, same) in
      omega (arith, total_within n x xs below, times_cons n x xs, times_other n x other)
  | inr above ↦ let here : n ≡ x = omega (arith, within, above) in
      omega (arith, total_past n x xs above, times_cons n x xs, ap (λ q. count_in q (x ∷ [])) here, times_one x)
]

total_ones : (n : ℕ) (xs : List ℕ) → ((q : ℕ) → q < n → count_in q xs ≡ 1) → total n xs ≡ n
unfolding total
total_ones zero xs each = refl
total_ones (suc n) xs each = omega (
  arith,
  total_ones n xs (λ q within. each q (omega (arith, within))),
  each n (omega arith),
)

total_all : (n : ℕ) (xs : List ℕ) → ((q : ℕ) → n ≤ q → count_in q xs ≡ 0) → total n xs ≡ length xs
total_all n [] none = total_none n
total_all n (x ∷ xs) none = elim (cases_lt x n) [
  | inl below ↦ omega (
    arith,
    total_within n x xs below,
    total_all n xs
        (λ q past. omega (arith, none q past, times_cons q x xs)),
  )
  | inr above ↦ absurd (omega (arith, none x above, times_cons x x xs, times_one x))
]

-- as many as there are pages
pub owned_length : (size : ℕ) (xs : List ℕ) → OwnsEachOnce size xs → length xs ≡ size
owned_length size xs owned = sym (total_all size xs owned.none) ∙ total_ones size xs owned.each

-- a page for each node
mutual
  pub a_page_each : (P : Placed) → length (pages_of P) ≡ nodes (tree_of P)
  a_page_each (Leaf p rs) = sym (fold-Leaf ℕ nodes_step rs)
  a_page_each (Inner p R) = omega (arith, pages_each R, fold-Inner ℕ nodes_step (trees_of R))

  pub pages_each : (R : Row) → length (all_pages R) ≡ sum (map nodes (trees_of R))
  pages_each no_more = refl
  pages_each (first P R) =
      omega (
        arith,
        length-append (pages_of P) (all_pages R),
        a_page_each P,
        pages_each R,
        sum_by-cons (λ (k : ℕ). k) (nodes (tree_of P)) (map nodes (trees_of R)),
      )

whole_nodes : (o : Option Placed) → length (whole_pages o) ≡ nodes (whole_tree o)
whole_nodes None = sym (fold-Empty ℕ nodes_step)
whole_nodes (Some P) = a_page_each P

-- the pages are page 0, the nodes and the free pages
pub pages_counted : (scheme : Scheme) (told : Option PageMap) (free : ℕ) (root : Option Child) (t : Tree)
    (d : Drafted scheme told free root t) → d.page_map.size ≡ suc (nodes t + length d.chain)
pages_counted scheme told free root t d =
    omega (
      arith,
      owned_length d.page_map.size (0 ∷ (whole_pages d.placed ++ d.chain)) d.owned,
      length-append (whole_pages d.placed) d.chain,
      whole_nodes d.placed,
      ap nodes d.tree,
    )

-- after an insertion there are no more pages than before, or than the nodes and page 0
pub pages_after : (scheme : Scheme) (told told' : Option PageMap) (free free' : ℕ) (root root' : Option Child)
    (t u : Tree)
    (d : Drafted scheme told free root t) (e : Drafted scheme told' free' root' u) →
    UsesPages d.page_map.size d.chain e.page_map.size e.chain → (d.page_map.size ≤ e.page_map.size) ×
    (e.page_map.size ≤ max d.page_map.size (nodes u + 1))
pages_after scheme told told' free free' root root' t u d e use_ = (
  use_.more,
  elim use_.grew [
    | inl same ↦ omega (arith, same)
    | inr none ↦ omega (arith, pages_counted scheme told' free' root' u e, ap length none)
  ],
)
