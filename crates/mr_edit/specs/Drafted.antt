-- Which tree a draft stands for: the file of a map without page 0, whose place is taken by what the
-- draft keeps, the root's entry and the first free page.
use Rattle.std.specs.Prelude.{◌≡◌, ℕ, List, ◌∷◌, ◌++◌, Option, Some, option_map, IfSome}
use Rattle.mr_record.specs.declared.record.Record.{Record}
use Rattle.mr_tree.specs.Digest.{Scheme}
use Rattle.mr_tree.specs.declared.child.Child.{Child}
use Rattle.mr_tree.specs.declared.tree.Tree.{Tree}
use Rattle.mr_pages.specs.Stands.{Placed, link_of, IsWritten, IsChain, whole_tree, whole_pages}
use Rattle.mr_pages.specs.Walking.{child_link}
use Rattle.mr_grow.specs.Grow.{ins}
use Rattle.mr_edit.specs.PageMap.{PageMap, HasNode, HasFree, OwnsEachOnce}
use Rattle.mr_edit.specs.Outcome.{UsesPages}

pub record Drafted (scheme : Scheme) (told : Option PageMap) (free : ℕ) (root : Option Child)
    (t : Tree) : Type 0 where
  pub page_map : PageMap
  pub is : told ≡ Some page_map
  pub placed : Option Placed
  pub tree : whole_tree placed ≡ t
  pub root_is : option_map child_link root ≡ option_map (link_of scheme) placed
  pub written : IfSome placed (IsWritten scheme (HasNode page_map))
  pub chain : List ℕ
  pub linked : IsChain (HasFree page_map) free chain
  pub owned : OwnsEachOnce page_map.size (0 ∷ (whole_pages placed ++ chain))

-- an insertion: whatever the draft stood for, it then stands for that with the record, and pages
-- were used as they may be
abbrev pub InsertsRecord : Scheme → (told : Option PageMap) → (free : ℕ) → Option Child →
    (told' : Option PageMap) → (free' : ℕ) → Child → Record → Type 0
InsertsRecord scheme told free root told' free' c one =
    (t : Tree) (d : Drafted scheme told free root t) →
    (e : Drafted scheme told' free' (Some c) (ins one t))
    × UsesPages d.page_map.size d.chain e.page_map.size e.chain
