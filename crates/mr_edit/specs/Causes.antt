-- Why a change of pages is refused.
use Rattle.std.specs.Prelude.{◌≡◌, ◌≢◌, ⊤, ℕ, ◌<◌, ◌≤◌, Bool, true, List, ◌++◌, Option, Some}
use Rattle.mr_tree.specs.Digest.{Scheme}
use Rattle.mr_tree.specs.declared.child.Child.{Child}
use Rattle.mr_outside.specs.Faults.{Rose}
use Rattle.mr_tree.specs.WellFormed.{FilledAs}
use Rattle.mr_pages.specs.Stands.{Placed, tree_of, pages_of, IsChain}
use Rattle.mr_pages.specs.declared.rule.MapRule.{MapRule}
use Rattle.mr_pages.specs.declared.rule.MapRule.TheVariants as rule
use Rattle.mr_edit.specs.PageMap.{PageMap, HasFree, OwnsEachOnce, count_in}
use Rattle.mr_edit.specs.Held.{NamesTree}
use Rattle.mr_edit.specs.declared.error.EditErr.{EditErr}
use Rattle.mr_edit.specs.declared.error.EditErr.TheVariants as errors

-- a page is none that may stand there, one outside the file is named, or a node has another digest
-- than is held of it
abbrev pub IsOfPages : MapRule → Type 0
IsOfPages rule.Page = ⊤
IsOfPages rule.Outside = ⊤
IsOfPages (rule.Changed held found) = held ≢ found
IsOfPages _ = ⊥

-- between these counts of faults: what was read is blamed without a fault, and what failed was
-- counted
abbrev pub HasEditCause : (before after : ℕ) → EditErr → Type 0
HasEditCause before after (errors.Map fault) = IsOfPages fault.rule × (after ≡ before)
HasEditCause before after errors.Missing = Rose before after
HasEditCause before after errors.Fault = Rose before after
HasEditCause before after errors.NoMemory = ⊤

-- the node that an entry names can be read: where the pages are told, the entry is that of a tree
-- whose nodes stand on pages of the file, none of them on page 0
pub record CanRead (scheme : Scheme) (told : Option PageMap) (c : Child) : Type 0 where
  pub page_map : PageMap
  pub is : told ≡ Some page_map
  pub placed : Placed
  pub names : NamesTree scheme page_map c placed
  pub inside : (q : ℕ) → 0 < count_in q (pages_of placed) → (1 ≤ q) × (q < page_map.size)

-- and its nodes are as full as they have to be, as a root or below it
pub record CanLook (scheme : Scheme) (root : Bool) (told : Option PageMap) (c : Child)
    : Type 0 where
  pub read : CanRead scheme told c
  pub filled : FilledAs root (tree_of read.placed)

-- What is known of the subtree below an entry that a change comes to, of the root or of a node
-- below it: where the pages are told, the entry is that of a tree whose nodes are as full as they
-- have to be, and each page has one owner, page 0 another one than the tree.
pub record KnowsBelow (scheme : Scheme) (root : Bool) (told : Option PageMap) (free : ℕ)
    (c : Child) : Type 0 where
  pub page_map : PageMap
  pub is : told ≡ Some page_map
  pub chain : List ℕ
  pub linked : IsChain (HasFree page_map) free chain
  pub placed : Placed
  pub names : NamesTree scheme page_map c placed
  pub filled : FilledAs root (tree_of placed)
  pub others : List ℕ
  pub owned : OwnsEachOnce page_map.size (pages_of placed ++ (chain ++ others))
  pub head : 0 < count_in 0 others

-- the same of a whole map, where it has a root
abbrev pub KnowsRoot : Scheme → (told : Option PageMap) → (free : ℕ) → Option Child → Type 0
KnowsRoot scheme told free root =
    (c : Child) → root ≡ Some c → KnowsBelow scheme true told free c
