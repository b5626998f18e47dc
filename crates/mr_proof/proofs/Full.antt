-- The nodes of a tree that is not empty have records, and rectangles that fit a map.
use Rattle.std.proofs.Common.{◌≡◌, ◌≢◌, ◌⊎◌, ℕ, ◌≤◌, List, [], ◌∷◌, ◌++◌, map, length, refl, sym, subst, inl, inr, arith}
use Rattle.std.specs.Prelude.{Option, Some, fold}
use Rattle.std.specs.List.{flat_map, AllByRecursion}
use Rattle.std.proofs.lemmas.List.{length-map, length-append}
use Rattle.std.proofs.lemmas.List.Elements.{recursion_from_All}
use Rattle.mr_geom.specs.Rectangle.{Rectangle, IsOrdered, FitsMap, union, join, union_of}
use Rattle.mr_geom.proofs.Rectangles.{IsOrdered-union, FitsMap-union}
use Rattle.mr_record.specs.Record.{IsRecord}
use Rattle.mr_record.specs.declared.record.Record.{Record}
use Rattle.mr_tree.specs.Tree.{rect, records}
use Rattle.mr_tree.specs.WellFormed.{WellFormed, HasOneLevel, IsFilled, IsFilledRoot}
use Rattle.mr_tree.specs.declared.tree.Tree.{Tree}
use Rattle.mr_tree.specs.declared.tree.Tree.TheVariants as tree
use Rattle.mr_tree.specs.declared.tree.Tree.TheOpen.{Tree-F, Empty, Leaf, Inner}
use Rattle.mr_tree.specs.declared.tree.Tree.TheFolds.{every-Tree, every_here-Tree}
use Rattle.mr_tree.proofs.Equations.{rect-Inner, rect-Leaf, records-Inner, records-Leaf}
use Rattle.mr_tree.proofs.Induction.{tree_induction, here-Leaf, here-Inner, every_child, every-Leaf, every-Inner}

abbrev pub IsFullNode : Tree-F Tree → Type 0
IsFullNode Empty = ⊥
IsFullNode (Leaf rs) = (1 ≤ length rs) × AllByRecursion IsRecord rs
IsFullNode (Inner ts) = 2 ≤ length ts

abbrev pub IsFull : Tree → Type 0
IsFull = every-Tree IsFullNode

pub not_full_empty : IsFull tree.Empty → ⊥
not_full_empty full = subst IsFullNode tree.outs-Empty (every_here-Tree IsFullNode tree.Empty full)

-- ---- rectangles

-- a rectangle that is there and fits a map
pub record IsThere (o : Option Rectangle) : Type 0 where
  pub at : Rectangle
  pub is : o ≡ Some at
  pub ordered : IsOrdered at
  pub fits : FitsMap at

there_some : (r : Rectangle) → IsOrdered r → FitsMap r → IsThere (Some r)
there_some r o f = record { at = r; is = refl; ordered = o; fits = f }

there_join : (a b : Option Rectangle) → IsThere a → IsThere b → IsThere (join a b)
there_join a b p q = record {
  at = union p.at q.at;
  is = (λ i. join (p.is i) (q.is i));
  ordered = IsOrdered-union p.at q.at p.ordered q.ordered;
  fits = FitsMap-union p.at q.at p.fits q.fits;
}

there_fold : (a : Option Rectangle) (xs : List (Option Rectangle)) → IsThere a → AllByRecursion IsThere xs
    → IsThere (fold join a xs)
there_fold a [] p all = p
there_fold a (x ∷ xs) p all = there_fold (join a x) xs (there_join a x p all.0) all.1

pub there_union : (xs : List (Option Rectangle)) → 1 ≤ length xs → AllByRecursion IsThere xs → IsThere (union_of xs)
there_union [] some all = absurd (omega arith)
there_union (x ∷ xs) some all = there_fold x xs all.0 all.1

rects_there : (rs : List Record) → AllByRecursion IsRecord rs
    → AllByRecursion IsThere (map (λ (r : Record). Some r.rect) rs)
rects_there [] all = tt
rects_there (r ∷ rs) all = (there_some r.rect all.0.ordered all.0.coordinates, rects_there rs all.1)

pub there_records : (rs : List Record) → 1 ≤ length rs → AllByRecursion IsRecord rs
    → IsThere (union_of (map (λ (r : Record). Some r.rect) rs))
there_records rs some all =
    there_union _ (subst (λ (n : ℕ). 1 ≤ n) (sym (length-map rs (λ (r : Record). Some r.rect))) some)
    (rects_there rs all)

children_there : (ts : List Tree) → AllByRecursion (λ t. IsFull t → IsThere (rect t)) ts → AllByRecursion IsFull ts
    → AllByRecursion IsThere (map rect ts)
children_there [] below full = tt
children_there (t ∷ ts) below full = (below.0 full.0, children_there ts below.1 full.1)

pub there_tree : (t : Tree) → IsFull t → IsThere (rect t)
there_tree = tree_induction (λ t. IsFull t → IsThere (rect t))
    (λ full. absurd (not_full_empty full))
    (λ rs full. let node = here-Leaf IsFullNode rs full in
    subst IsThere (sym (rect-Leaf rs)) (there_records rs node.0 node.1))
    (λ ts below full. subst IsThere (sym (rect-Inner ts)) (there_union (map rect ts)
    (omega (arith, length-map ts rect, here-Inner IsFullNode ts full))
    (children_there ts below (every_child IsFullNode ts full))))

-- ---- records

-- the records of some trees
abbrev pub flat : List Tree → List Record
flat ts = flat_map (λ list. list) (map records ts)

both : (P : Record → Type 0) (xs ys : List Record) → AllByRecursion P xs → AllByRecursion P ys
    → AllByRecursion P (xs ++ ys)
both P [] ys p q = q
both P (x ∷ xs) ys p q = (p.0, both P xs ys p.1 q)

children_records : (ts : List Tree) → AllByRecursion (λ t. IsFull t → AllByRecursion IsRecord (records t)) ts
    → AllByRecursion IsFull ts → AllByRecursion IsRecord (flat ts)
children_records [] below full = tt
children_records (t ∷ ts) below full =
    both IsRecord (records t) (flat ts) (below.0 full.0) (children_records ts below.1 full.1)

-- each record of a full tree is one
pub full_records : (t : Tree) → IsFull t → AllByRecursion IsRecord (records t)
full_records = tree_induction (λ t. IsFull t → AllByRecursion IsRecord (records t))
    (λ full. absurd (not_full_empty full))
    (λ rs full. subst (AllByRecursion IsRecord) (sym (records-Leaf rs)) (here-Leaf IsFullNode rs full).1)
    (λ ts below full. subst (AllByRecursion IsRecord) (sym (records-Inner ts))
    (children_records ts below (every_child IsFullNode ts full)))

first_child : (ts : List Tree) → 2 ≤ length ts → AllByRecursion (λ t. IsFull t → 1 ≤ length (records t)) ts
    → AllByRecursion IsFull ts → 1 ≤ length (flat ts)
first_child [] some below full = absurd (omega arith)
first_child (t ∷ ts) some below full =
    let here = below.0 full.0 in
    omega (arith, here, length-append (records t) (flat ts))

-- a full tree has a record
pub some_record : (t : Tree) → IsFull t → 1 ≤ length (records t)
some_record = tree_induction (λ t. IsFull t → 1 ≤ length (records t))
    (λ full. absurd (not_full_empty full))
    (λ rs full. subst (λ (xs : List Record). 1 ≤ length xs) (sym (records-Leaf rs)) (here-Leaf IsFullNode rs full).0)
    (λ ts below full. subst (λ (xs : List Record). 1 ≤ length xs) (sym (records-Inner ts))
    (first_child ts (here-Inner IsFullNode ts full) below (every_child IsFullNode ts full)))

-- ---- of well-formed trees

pub first_half : (P : Record → Type 0) (xs ys : List Record) → AllByRecursion P (xs ++ ys) → AllByRecursion P xs
first_half P [] ys all = tt
first_half P (x ∷ xs) ys all = (all.0, first_half P xs ys all.1)

pub second_half : (P : Record → Type 0) (xs ys : List Record) → AllByRecursion P (xs ++ ys) → AllByRecursion P ys
second_half P [] ys all = all
second_half P (x ∷ xs) ys all = second_half P xs ys all.1

abbrev FullBelow : Tree → Type 0
FullBelow t = every-Tree HasOneLevel t → every-Tree IsFilled t → t ≢ tree.Empty → AllByRecursion IsRecord (records t)
    → IsFull t

children_full : (ts : List Tree) → AllByRecursion FullBelow ts → AllByRecursion (every-Tree HasOneLevel) ts
    → AllByRecursion (every-Tree IsFilled) ts → AllByRecursion (λ child. child ≢ tree.Empty) ts
    → AllByRecursion IsRecord (flat ts) → AllByRecursion IsFull ts
children_full [] below levels fills there each = tt
children_full (t ∷ ts) below levels fills there each = (
  below.0 levels.0 fills.0 there.0 (first_half IsRecord (records t) (flat ts) each),
  children_full ts below.1 levels.1 fills.1 there.1 (second_half IsRecord (records t) (flat ts) each),
)

not_empty : (ts : List Tree) → every-Tree HasOneLevel (tree.Inner ts) → AllByRecursion (λ child. child ≢ tree.Empty) ts
not_empty ts levels =
    recursion_from_All (λ child. child ≢ tree.Empty) ts (λ k d within. (here-Inner HasOneLevel ts levels k d within).0)

full_leaf : (rs : List Record) → 1 ≤ length rs → AllByRecursion IsRecord (records (tree.Leaf rs))
    → IsFull (tree.Leaf rs)
full_leaf rs some each = every-Leaf IsFullNode rs (some, subst (AllByRecursion IsRecord) (records-Leaf rs) each)

full_inner : (ts : List Tree) → 2 ≤ length ts → AllByRecursion FullBelow ts → every-Tree HasOneLevel (tree.Inner ts)
    → AllByRecursion (every-Tree IsFilled) ts → AllByRecursion IsRecord (records (tree.Inner ts))
    → IsFull (tree.Inner ts)
full_inner ts some below levels fills each =
    every-Inner IsFullNode ts (children_full ts below (every_child HasOneLevel ts levels) fills (not_empty ts levels)
    (subst (AllByRecursion IsRecord) (records-Inner ts) each)) some

full_below : (t : Tree) → FullBelow t
full_below = tree_induction FullBelow
    (λ levels fills there each. absurd (there refl))
    (λ rs levels fills there each. full_leaf rs (omega (arith, (here-Leaf IsFilled rs fills).0)) each)
    (λ ts below levels fills there each. full_inner ts (omega (arith, (here-Inner IsFilled ts fills).0)) below levels
    (every_child IsFilled ts fills) each)

all_below : (ts : List Tree) → AllByRecursion FullBelow ts
all_below [] = tt
all_below (t ∷ ts) = (full_below t, all_below ts)

abbrev IsEmptyOrFull : Tree → Type 0
IsEmptyOrFull t = (t ≡ tree.Empty) ⊎ IsFull t

pub empty_or_full : (t : Tree) → WellFormed t → (t ≡ tree.Empty) ⊎ IsFull t
empty_or_full = tree_induction (λ t. WellFormed t → IsEmptyOrFull t)
    (λ well. inl refl)
    (λ rs well. inr (full_leaf rs (omega (arith, (subst IsFilledRoot (tree.outs-Leaf rs) well.filled).0))
    (recursion_from_All IsRecord (records (tree.Leaf rs)) well.each)))
    (λ ts below well.
    let fill = subst IsFilledRoot (tree.outs-Inner ts) well.filled in
    inr (full_inner ts (omega (arith, fill.0)) (all_below ts) well.one_level
    (recursion_from_All (every-Tree IsFilled) ts fill.2)
    (recursion_from_All IsRecord (records (tree.Inner ts)) well.each)))
