-- A tree whose nodes are numbered in preorder has all pages from the first one on, each once.
use Rattle.std.proofs.Common.{◌≡◌, ◌≢◌, ℕ, zero, suc, ◌+◌, ◌<◌, List, [], ◌∷◌, ◌++◌, length, map, get_or, refl, sym, ap, subst, ◌∙◌, arith, length-append}
use Rattle.std.specs.Prelude.{⊤, Contains, Option, Some, IfSome}
use Rattle.std.specs.List.{AllByRecursion}
use Rattle.std.proofs.lemmas.List.Elements.{recursion_from_All}
use Rattle.std.proofs.lemmas.List.{append-nil}
use Rattle.mr_record.specs.declared.record.Record.{Record}
use Rattle.mr_tree.specs.WellFormed.{HasOneLevel}
use Rattle.mr_tree.specs.declared.tree.Tree.{Tree}
use Rattle.mr_tree.specs.declared.tree.Tree.TheVariants as tree
use Rattle.mr_tree.specs.declared.tree.Tree.TheOpen as node
use Rattle.mr_tree.specs.declared.tree.Tree.TheFolds.{every-Tree}
use Rattle.mr_tree.proofs.Folds.{fold-Leaf, fold-Inner}
use Rattle.mr_tree.proofs.Induction.{tree_induction, here-Inner, every_child}
use Rattle.mr_pages.specs.Stands as placed
use Rattle.mr_pages.specs.Stands.{Placed, Row, no_more, first, tree_of, trees_of, pages_of, all_pages, AreAllPages, whole_tree, whole_pages}
use Rattle.mr_pages.specs.Faults.{count_from}
use Rattle.mr_pages.proofs.Building.{leaf_there, inner_there}
use Rattle.mr_pages.specs.Saved.{number_row, number_step, numbered, unless_empty, numbered_whole}

-- ---- numbers one after another

abbrev mutual
  -- the nodes have the pages from n on
  pub IsNumbered : ℕ → Placed → Type 0
  IsNumbered n (placed.Leaf p rs) = p ≡ n
  IsNumbered n (placed.Inner p Ps) = (p ≡ n) × AreNumbered (suc n) Ps

  pub AreNumbered : ℕ → Row → Type 0
  AreNumbered n no_more = ⊤
  AreNumbered n (first P Ps) = IsNumbered n P × AreNumbered (n + length (pages_of P)) Ps

pub count_on : (a m k : ℕ) → count_from a m ++ count_from (a + m) k ≡ count_from a (m + k)
count_on a zero k = λ i. count_from (add_zero i) (zero_add i)
  where
    add_zero : a + 0 ≡ a
    add_zero = omega arith

    zero_add : k ≡ 0 + k
    zero_add = omega arith
count_on a (suc m) k =
    let there : a + suc m ≡ suc a + m = omega arith in
    let all : suc (m + k) ≡ suc m + k = omega arith in
    ap (λ b. a ∷ (count_from (suc a) m ++ count_from b k)) there
    ∙ ap (λ xs. a ∷ xs) (count_on (suc a) m k)
    ∙ ap (count_from a) all

mutual
  pub numbered_pages : (n : ℕ) (P : Placed) → IsNumbered n P → pages_of P ≡ count_from n (length (pages_of P))
  numbered_pages n (placed.Leaf p rs) is = ap (λ q. q ∷ []) is
  numbered_pages n (placed.Inner p Ps) is = λ i. is.0 i ∷ row_pages (suc n) Ps is.1 i

  pub row_pages : (n : ℕ) (Ps : Row) → AreNumbered n Ps → all_pages Ps ≡ count_from n (length (all_pages Ps))
  row_pages n no_more is = refl
  row_pages n (first P Ps) is =
      let m = length (pages_of P) in
      (λ i. numbered_pages n P is.0 i ++ row_pages (n + m) Ps is.1 i)
      ∙ count_on n m (length (all_pages Ps))
      ∙ ap (count_from n) (sym (length-append (pages_of P) (all_pages Ps)))

length_counted : (a m : ℕ) → length (count_from a m) ≡ m
length_counted a zero = refl
length_counted a (suc m) = ap suc (length_counted (suc a) m)

counted_at : (a m i d : ℕ) → i < m → get_or (count_from a m) i d ≡ a + i
counted_at a zero i d low = absurd (omega (arith, low))
counted_at a (suc m) zero d low = omega arith
counted_at a (suc m) (suc i) d low = omega (arith, counted_at (suc a) m i d (omega (arith, low)))

-- the numbers from 1 on are the pages behind page 0
pub all_counted_pages : (m : ℕ) → AreAllPages (suc m) (count_from 1 m)
all_counted_pages m = record {
  each = λ p. (found p, λ h. there p h.0 h.1);
  once = λ i j d low high. apart i j d low (omega (arith, high, length_counted 1 m));
}
  where
    found : (p : ℕ) → Contains (count_from 1 m) p → (0 < p) × (p < suc m)
    found p c =
        let within : c.0 < m = omega (arith, c.1, length_counted 1 m) in
        let is : get_or (count_from 1 m) c.0 p ≡ 1 + c.0 = counted_at 1 m c.0 p within in
        (omega (arith, is, c.2, within), omega (arith, is, c.2, within))

    there : (p : ℕ) → 0 < p → p < suc m → Contains (count_from 1 m) p
    there zero some few = absurd (omega (arith, some))
    there (suc p) some few =
        let within : p < m = omega (arith, few) in
        let is : get_or (count_from 1 m) p (suc p) ≡ 1 + p = counted_at 1 m p (suc p) within in
        (p, omega (arith, within, length_counted 1 m), omega (arith, is))

    apart : (i j d : ℕ) → i < j → j < m → get_or (count_from 1 m) i d ≢ get_or (count_from 1 m) j d
    apart i j d low high same =
        let first' : get_or (count_from 1 m) i d ≡ 1 + i = counted_at 1 m i d (omega (arith, low, high)) in
        let second : get_or (count_from 1 m) j d ≡ 1 + j = counted_at 1 m j d high in
        omega (arith, first', second, same, low)

-- ---- a tree that is numbered

pub record Numbers (t : Tree) (n : ℕ) (P : Placed) : Type 0 where
  pub trees : tree_of P ≡ t
  pub is : IsNumbered n P

record RowNumbers (ts : List Tree) (n : ℕ) (Ps : Row) : Type 0 where
  trees : trees_of Ps ≡ ts
  is : AreNumbered n Ps

abbrev MayNumber : Tree → Type 0
MayNumber t = every-Tree HasOneLevel t → t ≢ tree.Empty → (n : ℕ) → Numbers t n (numbered t n)

row_numbered : (ts : List Tree) → AllByRecursion MayNumber ts → AllByRecursion (every-Tree HasOneLevel) ts →
    AllByRecursion (λ t. t ≢ tree.Empty) ts → (n : ℕ) → RowNumbers ts n (number_row n (map numbered ts))
row_numbered [] all levels there n = record { trees = refl; is = tt }
row_numbered (t ∷ ts) all levels there n =
    let one = all.0 levels.0 there.0 n in
    let rest = row_numbered ts all.1 levels.1 there.1 (n + length (pages_of (numbered t n))) in
    record { trees = λ i. one.trees i ∷ rest.trees i; is = (one.is, rest.is) }

pub numbered-Leaf : (rs : List Record) → numbered (tree.Leaf rs) ≡ number_step (node.Leaf rs)
numbered-Leaf = fold-Leaf (ℕ → Placed) number_step

pub numbered-Inner : (ts : List Tree) → numbered (tree.Inner ts) ≡ number_step (node.Inner (map numbered ts))
numbered-Inner = fold-Inner (ℕ → Placed) number_step

pub tree_numbered : (t : Tree) → MayNumber t
tree_numbered = tree_induction MayNumber
    (λ levels there n. absurd (there refl))
    (λ rs levels there n. subst (λ f. Numbers (tree.Leaf rs) n (f n)) (sym (numbered-Leaf rs))
    (record { trees = refl; is = refl }))
    (λ ts below levels there n.
    let r = row_numbered ts below (every_child HasOneLevel ts levels)
    (recursion_from_All (λ t. t ≢ tree.Empty) ts (λ k d within. (here-Inner HasOneLevel ts levels k d within).0))
    (suc n) in
    subst (λ f. Numbers (tree.Inner ts) n (f n)) (sym (numbered-Inner ts))
    (record { trees = ap tree.Inner r.trees; is = (refl, r.is) }))

-- ---- the whole tree

pub record WholeNumbers (t : Tree) (po : Option Placed) : Type 0 where
  pub trees : whole_tree po ≡ t
  pub is : IfSome po (IsNumbered 1)
  pub all : AreAllPages (suc (length (whole_pages po))) (whole_pages po ++ [])

all_of : (ps : List ℕ) → ps ≡ count_from 1 (length ps) → AreAllPages (suc (length ps)) (ps ++ [])
all_of ps e =
    subst (λ qs. AreAllPages (suc (length ps)) qs) (sym e ∙ sym (append-nil ps)) (all_counted_pages (length ps))

placed_by : (t : Tree) (P : Placed) → Numbers t 1 P → WholeNumbers t (Some P)
placed_by t P n = record { trees = n.trees; is = n.is; all = all_of (pages_of P) (numbered_pages 1 P n.is) }

pub whole_numbered : (t : Tree) → every-Tree HasOneLevel t → WholeNumbers t (numbered_whole t)
whole_numbered = tree_induction (λ t. every-Tree HasOneLevel t → WholeNumbers t (numbered_whole t))
    (λ levels. subst (λ x. WholeNumbers tree.Empty (unless_empty x (numbered tree.Empty 1))) (sym tree.outs-Empty)
    (record { trees = refl; is = tt; all = all_of [] refl }))
    (λ rs levels. subst (λ x. WholeNumbers (tree.Leaf rs) (unless_empty x (numbered (tree.Leaf rs) 1)))
    (sym (tree.outs-Leaf rs))
    (placed_by (tree.Leaf rs) (numbered (tree.Leaf rs) 1) (tree_numbered (tree.Leaf rs) levels (leaf_there rs) 1)))
    (λ ts below levels.
    subst (λ x. WholeNumbers (tree.Inner ts) (unless_empty x (numbered (tree.Inner ts) 1))) (sym (tree.outs-Inner ts))
    (placed_by (tree.Inner ts) (numbered (tree.Inner ts) 1) (tree_numbered (tree.Inner ts) levels (inner_there ts) 1)))
