-- What an insertion needs to know of a draft whose pages are told, so that none is blamed.
use Rattle.std.specs.Prelude.{◌≡◌, ℕ, ◌+◌, ◌<◌, ◌≤◌, Bool, List, ◌++◌, length, map, sum, Option, Some}
use Rattle.mr_record.specs.declared.record.Record.{Record}
use Rattle.mr_tree.specs.Digest.{Scheme}
use Rattle.mr_tree.specs.Limits.{count_limit, level_limit}
use Rattle.mr_tree.specs.Tree.{records, nodes}
use Rattle.mr_tree.specs.declared.child.Child.{Child}
use Rattle.mr_tree.specs.declared.tree.Tree.{Tree}
use Rattle.mr_tree.specs.declared.tree.Tree.TheFolds.{every-Tree}
use Rattle.mr_pages.specs.Page.{page_limit}
use Rattle.mr_pages.specs.Stands.{tree_of, IsChain}
use Rattle.mr_grow.specs.Grow.{grown}
use Rattle.mr_grow.specs.Views.{HasRoom, IsRooted}
use Rattle.mr_edit.specs.PageMap.{PageMap, HasFree, OwnsEachOnce}
use Rattle.mr_edit.specs.Causes.{KnowsBelow}
use Rattle.mr_edit.specs.Drafted.{Drafted}

-- a page can be taken and written: few are not free
pub record CanAdd (told : Option PageMap) (free : ℕ) : Type 0 where
  pub page_map : PageMap
  pub is : told ≡ Some page_map
  pub chain : List ℕ
  pub linked : IsChain (HasFree page_map) free chain
  pub others : List ℕ
  pub owned : OwnsEachOnce page_map.size (chain ++ others)
  pub few : length others < page_limit

-- a root can be put above a node of this level and another one
pub record CanRaise (told : Option PageMap) (free level : ℕ) : Type 0 where
  pub add : CanAdd told free
  pub low : level < level_limit

-- a record can be put into the subtree below an entry: with the nodes that it has afterwards, and
-- the pages of others, there are few, and it has few records then
pub record CanGrow (scheme : Scheme) (root : Bool) (told : Option PageMap) (free : ℕ)
    (c : Child) (one : Record) : Type 0 where
  pub below : KnowsBelow scheme root told free c
  pub room : sum (map nodes (grown one (tree_of below.placed))) + length below.others < page_limit
  pub roomy : every-Tree HasRoom (tree_of below.placed)
  pub few : length (records (tree_of below.placed)) + 1 ≤ count_limit

-- so many records can be put into the map that a draft stands for
pub record CanInsert (scheme : Scheme) (told : Option PageMap) (free : ℕ) (root : Option Child)
    (count : ℕ) : Type 0 where
  pub tree : Tree
  pub draft : Drafted scheme told free root tree
  pub rooted : IsRooted tree
  pub few : length (records tree) + count ≤ count_limit
