-- What is known of a map beforehand where something is taken out of it, so that none of its pages
-- can be blamed: whose each page is, and that each node is as full as it has to be.
use Rattle.std.specs.Prelude.{◌≡◌, ℕ, ◌<◌, ◌≤◌, Bool, true, List, ◌∷◌, ◌++◌, length, Option, Some}
use Rattle.std.specs.List.{AllByRecursion}
use Rattle.mr_geom.specs.Rectangle.{Rectangle}
use Rattle.mr_tree.specs.Digest.{Scheme}
use Rattle.mr_tree.specs.Tree.{records}
use Rattle.mr_tree.specs.Limits.{count_limit}
use Rattle.mr_tree.specs.WellFormed.{HasOneLevel, IsFilled}
use Rattle.mr_tree.specs.declared.child.Child.{Child}
use Rattle.mr_tree.specs.declared.tree.Tree.{Tree}
use Rattle.mr_tree.specs.declared.tree.Tree.TheFolds.{every-Tree}
use Rattle.mr_pages.specs.Stands.{Placed, tree_of, IsChain}
use Rattle.mr_grow.specs.Found.{has}
use Rattle.mr_grow.specs.Views.{IsRooted}
use Rattle.mr_edit.specs.PageMap.{PageMap, HasFree, OwnsEachOnce, count_in}
use Rattle.mr_edit.specs.Held.{NameTrees, trees, pages, HaveFew}
use Rattle.mr_edit.specs.Causes.{KnowsBelow}
use Rattle.mr_edit.specs.Drafted.{Drafted}
use Rattle.mr_edit.specs.private.Removal.{HaveRect, IsOnce}

-- these entries stand for subtrees below a root; page 0 is neither theirs nor free
pub record CanFree (scheme : Scheme) (told : Option PageMap) (free : ℕ) (cs : List Child)
    : Type 0 where
  pub page_map : PageMap
  pub is : told ≡ Some page_map
  pub parts : List Placed
  pub named : NameTrees scheme page_map cs parts
  pub chain : List ℕ
  pub linked : IsChain (HasFree page_map) free chain
  pub others : List ℕ
  pub owned : OwnsEachOnce page_map.size (pages parts ++ (chain ++ others))
  pub head : 0 < count_in 0 others
  pub filled : AllByRecursion (every-Tree IsFilled) (trees parts)

-- the same beside a page, on which they are to be written: some, with few records
pub record CanLeave (scheme : Scheme) (told : Option PageMap) (free page : ℕ)
    (cs : List Child) : Type 0 where
  pub page_map : PageMap
  pub is : told ≡ Some page_map
  pub parts : List Placed
  pub named : NameTrees scheme page_map cs parts
  pub chain : List ℕ
  pub linked : IsChain (HasFree page_map) free chain
  pub others : List ℕ
  pub owned : OwnsEachOnce page_map.size (page ∷ (pages parts ++ (chain ++ others)))
  pub head : 0 < count_in 0 others
  pub filled : AllByRecursion (every-Tree IsFilled) (trees parts)
  pub some : 0 < length cs
  pub few : HaveFew cs

-- a record can be searched below an entry, as a root or below it, where the number has this
-- rectangle, and there are few records
pub record CanTakeOut (scheme : Scheme) (root : Bool) (told : Option PageMap) (free : ℕ)
    (c : Child) (n : ℕ) (rect : Rectangle) : Type 0 where
  pub below : KnowsBelow scheme root told free c
  pub one_level : every-Tree HasOneLevel (tree_of below.placed)
  pub rects : HaveRect n rect (records (tree_of below.placed))
  pub once : IsOnce n (records (tree_of below.placed))
  pub few : length (records (tree_of below.placed)) ≤ count_limit

-- the draft stands for a tree that has a record with the number, which has this rectangle
pub record CanDelete (scheme : Scheme) (told : Option PageMap) (free : ℕ)
    (root : Option Child) (n : ℕ) (rect : Rectangle) : Type 0 where
  pub tree : Tree
  pub draft : Drafted scheme told free root tree
  pub rooted : IsRooted tree
  pub few : length (records tree) ≤ count_limit
  pub there : has n (records tree) ≡ true
  pub rects : HaveRect n rect (records tree)
  pub once : IsOnce n (records tree)
