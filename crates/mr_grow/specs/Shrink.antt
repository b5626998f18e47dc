-- Deletion (Guttman 1984): what is left of a subtree when a record leaves it, and the records that
-- are set aside, which are inserted again afterwards.
use Rattle.std.specs.Prelude.{◌≡◌, ℕ, zero, suc, nat_lt, Bool, true, if◌then◌else◌, List, [], ◌∷◌, ◌++◌, map, length}
use Rattle.std.specs.List.{fold, remove}
use Rattle.std.specs.List.Sorted.{IsPermutation}
use Rattle.mr_record.specs.Sorting.{sorted_by_key}
use Rattle.mr_record.specs.declared.record.Record.{Record}
use Rattle.mr_tree.specs.Limits.{leaf_fill, inner_fill}
use Rattle.mr_tree.specs.Tree.{records}
use Rattle.mr_tree.specs.declared.tree.Tree.{Tree}
use Rattle.mr_tree.specs.declared.tree.Tree.TheVariants as tree
use Rattle.mr_tree.specs.declared.tree.Tree.TheOpen.{Tree-F, Empty, Leaf, Inner}
use Rattle.mr_tree.specs.declared.tree.Tree.TheViews.{out-Tree}
use Rattle.mr_tree.specs.declared.tree.Tree.TheFolds.{para-Tree}
use Rattle.mr_grow.specs.Found.{has, is_numbered, place_of}
use Rattle.mr_grow.specs.Grow.{in_place, ins}

-- what is left of a subtree, and what is set aside
pub record Rest : Type 0 where
  pub tree : Tree
  pub aside : List Record

-- too few entries for a node that is not the root
abbrev pub is_low_step : {A : Type 0} → Tree-F A → Bool
is_low_step Empty = true
is_low_step (Leaf rs) = nat_lt (length rs) leaf_fill
is_low_step (Inner ts) = nat_lt (length ts) inner_fill

abbrev pub is_low : Tree → Bool
is_low t = is_low_step (out-Tree t)

-- what a parent keeps of what is left of a child, and what is set aside then
abbrev pub stays : Rest → List Tree
stays r = if is_low r.tree then [] else r.tree ∷ []

abbrev pub set_aside : Rest → List Record
set_aside r = if is_low r.tree then records r.tree ++ r.aside else r.aside

-- what stands at a position
abbrev pub at_position : {X A : Type 0} → ℕ → (X → List A) → List X → List A
at_position n f [] = []
at_position zero f (x ∷ xs) = f x
at_position (suc n) f (x ∷ xs) = at_position n f xs

abbrev pub shrunk_step : ℕ → Tree-F (Tree × Rest) → Rest
shrunk_step n Empty = record { tree = tree.Empty; aside = [] }
shrunk_step n (Leaf rs) =
    record { tree = tree.Leaf (remove rs (place_of (is_numbered n) rs)); aside = [] }
shrunk_step n (Inner cs) =
    let at = place_of (λ (c : Tree × Rest). has n (records c.0)) cs in
    record {
      tree = tree.Inner (in_place at (map (λ (c : Tree × Rest). (c.0, stays c.1)) cs));
      aside = at_position at (λ (c : Tree × Rest). set_aside c.1) cs;
    }

-- a tree that has the record, without it
abbrev pub shrunk : ℕ → Tree → Rest
shrunk n = para-Tree Rest (shrunk_step n)

-- no leaf without records as the root, and no inner root with one child, which takes its place
abbrev pub shortened_step : Tree-F (Tree × Tree) → Tree
shortened_step Empty = tree.Empty
shortened_step (Leaf []) = tree.Empty
shortened_step (Leaf (r ∷ rs)) = tree.Leaf (r ∷ rs)
shortened_step (Inner []) = tree.Inner []
shortened_step (Inner (c ∷ [])) = c.1
shortened_step (Inner (c ∷ d ∷ cs)) = tree.Inner (map (λ (e : Tree × Tree). e.0) (c ∷ d ∷ cs))

abbrev pub shortened : Tree → Tree
shortened = para-Tree Tree shortened_step

-- records inserted one after the other
abbrev pub all_in : List Record → Tree → Tree
all_in rs t = fold (λ u r. ins r u) t rs

-- the tree after a deletion: what was set aside goes in again by rising number
abbrev pub del : ℕ → Tree → Tree
del n t =
    all_in (sorted_by_key (λ (r : Record). r.number) (shrunk n t).aside)
    (shortened (shrunk n t).tree)

-- the one list has the records of the other but one, which has this number, in some order
pub record WithoutOne (n : ℕ) (before after : List Record) : Type 0 where
  pub one : Record
  pub numbered : one.number ≡ n
  pub mixes : IsPermutation before (one ∷ after)
