-- A root that is shortened.
use Rattle.std.proofs.Common.{◌≡◌, ◌≢◌, ℕ, ◌≤◌, List, [], ◌∷◌, length, map, get_or, refl, sym, ap, subst, ◌∙◌, arith}
use Rattle.std.specs.List.{AllByRecursion}
use Rattle.std.proofs.lemmas.List.{append-nil}
use Rattle.mr_record.specs.declared.record.Record.{Record}
use Rattle.mr_tree.specs.Tree.{records, level, first_level}
use Rattle.mr_tree.specs.WellFormed.{HasOneLevel, IsFilled, IsFilledRoot}
use Rattle.mr_tree.specs.declared.tree.Tree.{Tree}
use Rattle.mr_tree.specs.declared.tree.Tree.TheVariants as tree
use Rattle.mr_tree.specs.declared.tree.Tree.TheOpen.{Empty, Leaf, Inner}
use Rattle.mr_tree.specs.declared.tree.Tree.TheFolds.{para-roll-Tree}
use Rattle.mr_tree.proofs.Equations.{records-Leaf, records-Empty}
use Rattle.mr_tree.proofs.Induction.{tree_induction, here-Leaf, here-Inner, every_child, every-Empty}
use Rattle.mr_grow.specs.Shrink.{shortened, shortened_step}
use Rattle.mr_grow.specs.Views.{IsRooted}
use Rattle.mr_grow.proofs.Grown.{beside, firsts}
use Rattle.mr_grow.proofs.Kept.{records_below}
use Rattle.mr_grow.proofs.Standing.{Stands, below_stand, leaf_root, inner_root}

pub shortened-Empty : shortened tree.Empty ≡ tree.Empty
shortened-Empty = ap shortened (sym tree.rolls-Empty) ∙ para-roll-Tree Tree shortened_step Empty

pub shortened-Leaf : (rs : List Record) → shortened (tree.Leaf rs) ≡ shortened_step (Leaf rs)
shortened-Leaf rs = ap shortened (sym (tree.rolls-Leaf rs)) ∙ para-roll-Tree Tree shortened_step (Leaf rs)

pub shortened-Inner : (ts : List Tree) → shortened (tree.Inner ts) ≡ shortened_step (Inner (beside shortened ts))
shortened-Inner ts = ap shortened (sym (tree.rolls-Inner ts)) ∙ para-roll-Tree Tree shortened_step (Inner ts)

-- two children, or more
pub many_children : (t u : Tree) (ts : List Tree) → shortened (tree.Inner (t ∷ u ∷ ts)) ≡ tree.Inner (t ∷ u ∷ ts)
many_children t u ts = shortened-Inner (t ∷ u ∷ ts) ∙ ap (λ us. tree.Inner (t ∷ u ∷ us)) (firsts shortened ts)

-- ---- what the code does

pub empty_leaf : (rs : List Record) (parent : Tree) → parent ≡ tree.Leaf rs → length rs ≡ 0 → tree.Empty ≡ shortened
    parent
empty_leaf [] parent is none = sym (ap shortened is ∙ shortened-Leaf [])
empty_leaf (r ∷ rs) parent is none = absurd (omega (arith, none))

pub some_leaf : (rs : List Record) (parent : Tree) → parent ≡ tree.Leaf rs → length rs ≢ 0 → tree.Leaf rs ≡ shortened
    parent
some_leaf [] parent is some = absurd (some refl)
some_leaf (r ∷ rs) parent is some = sym (ap shortened is ∙ shortened-Leaf (r ∷ rs))

pub one_child : (ts items : List Tree) (child parent new : Tree) → parent ≡ tree.Inner ts → items ≡ ts →
    length items ≡ 1 → child ≡ get_or items 0 child →
    new ≡ shortened child → new ≡ shortened parent
one_child ts [] child parent new is same one at short = absurd (omega (arith, one))
one_child ts (t ∷ []) child parent new is same one at short = short ∙ ap shortened at ∙ sym (shortened-Inner (t ∷ []))
    ∙ ap (λ us. shortened (tree.Inner us)) same ∙ sym (ap shortened is)
one_child ts (t ∷ u ∷ us) child parent new is same one at short = absurd (omega (arith, one))

pub other_children : (ts items : List Tree) (parent : Tree) → parent ≡ tree.Inner ts → items ≡ ts → length items ≢ 1 →
    tree.Inner items ≡ shortened parent
other_children ts [] parent is same some = sym (shortened-Inner []) ∙ ap (λ us. shortened (tree.Inner us)) same ∙ sym
    (ap shortened is)
other_children ts (t ∷ []) parent is same some = absurd (some refl)
other_children ts (t ∷ u ∷ us) parent is same some = sym (many_children t u us) ∙ ap (λ us. shortened (tree.Inner us))
    same ∙ sym (ap shortened is)

-- ---- the records stay

pub shortened_records : (t : Tree) → records (shortened t) ≡ records t
shortened_records = tree_induction (λ t. records (shortened t) ≡ records t)
    (ap records shortened-Empty)
    leaf
    inner
  where
    leaf : (rs : List Record) → records (shortened (tree.Leaf rs)) ≡ records (tree.Leaf rs)
    leaf [] = ap records (shortened-Leaf []) ∙ records-Empty ∙ sym (records-Leaf [])
    leaf (r ∷ rs) = ap records (shortened-Leaf (r ∷ rs))

    inner : (ts : List Tree) → AllByRecursion (λ t. records (shortened t) ≡ records t) ts → records
        (shortened (tree.Inner ts)) ≡ records (tree.Inner ts)
    inner [] below = ap records (shortened-Inner [])
    inner (t ∷ []) below = ap records (shortened-Inner (t ∷ [])) ∙ below.0 ∙ sym (append-nil (records t)) ∙ sym
        (records_below (t ∷ []))
    inner (t ∷ u ∷ ts) below = ap records (many_children t u ts)

-- ---- the shape

empty_root : IsRooted tree.Empty
empty_root = record { one_level = every-Empty HasOneLevel tt; filled = subst IsFilledRoot (sym tree.outs-Empty) tt }

-- a node that stands below the root may be the root
pub rooted_of_stands : (k : ℕ) (t : Tree) → Stands k t → IsRooted t
rooted_of_stands k = tree_induction (λ t. Stands k t → IsRooted t)
    (λ s. empty_root)
    (λ rs s. let fill = here-Leaf IsFilled rs s.filled in leaf_root rs (omega (arith, fill.0)) fill.1)
    (λ ts below s.
    let fill = here-Inner IsFilled ts s.filled in
    inner_root (first_level (map level ts)) ts (omega (arith, fill.0)) fill.1
    (below_stand ts s.one_level (every_child IsFilled ts s.filled)))

-- and stays as it is
pub shortened_same : (k : ℕ) (t : Tree) → Stands k t → shortened t ≡ t
shortened_same k = tree_induction (λ t. Stands k t → shortened t ≡ t)
    (λ s. shortened-Empty)
    (λ rs s. leaf rs (here-Leaf IsFilled rs s.filled).0)
    (λ ts below s. inner ts (here-Inner IsFilled ts s.filled).0)
  where
    leaf : (rs : List Record) → 6 ≤ length rs → shortened (tree.Leaf rs) ≡ tree.Leaf rs
    leaf [] some = absurd (omega (arith, some))
    leaf (r ∷ rs) some = shortened-Leaf (r ∷ rs)

    inner : (ts : List Tree) → 24 ≤ length ts → shortened (tree.Inner ts) ≡ tree.Inner ts
    inner [] some = absurd (omega (arith, some))
    inner (t ∷ []) some = absurd (omega (arith, some))
    inner (t ∷ u ∷ ts) some = many_children t u ts

pub leaf_shortened : (rs : List Record) → length rs ≤ 16 → IsRooted (shortened (tree.Leaf rs))
leaf_shortened [] few = subst IsRooted (sym (shortened-Leaf [])) empty_root
leaf_shortened (r ∷ rs) few = subst IsRooted (sym (shortened-Leaf (r ∷ rs))) (leaf_root (r ∷ rs) (omega arith) few)

pub inner_shortened : (k : ℕ) (ts : List Tree) → 1 ≤ length ts → length ts ≤ 64 → AllByRecursion (Stands k) ts →
    IsRooted (shortened (tree.Inner ts))
inner_shortened k [] some few all = absurd (omega (arith, some))
inner_shortened k (t ∷ []) some few all =
    subst IsRooted (sym (shortened-Inner (t ∷ []) ∙ shortened_same k t all.0)) (rooted_of_stands k t all.0)
inner_shortened k (t ∷ u ∷ ts) some few all = subst IsRooted (sym (many_children t u ts))
    (inner_root k (t ∷ u ∷ ts) (omega arith) few all)
