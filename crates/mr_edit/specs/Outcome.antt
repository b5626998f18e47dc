-- What a change of pages leaves.
use Rattle.std.specs.Prelude.{◌≡◌, ⊤, ◌⊎◌, ℕ, ◌+◌, ◌<◌, ◌≤◌, length, List, [], ◌∷◌, ◌++◌, Option, Some, None, IfSome, IsSomeAnd, option_map, map}
use Rattle.mr_geom.specs.Rectangle.{Rectangle}
use Rattle.mr_tree.specs.Limits.{level_limit}
use Rattle.mr_record.specs.declared.record.Record.{Record}
use Rattle.mr_tree.specs.Digest.{Scheme}
use Rattle.mr_tree.specs.declared.child.Child.{Child}
use Rattle.mr_tree.specs.declared.tree.Tree.{Tree}
use Rattle.mr_tree.specs.declared.tree.Tree.TheOpen.{Inner}
use Rattle.mr_pages.specs.Page.{Node, node_entry, page_limit}
use Rattle.mr_pages.specs.Stands.{Placed, tree_of, pages_of, IsChain}
use Rattle.mr_pages.specs.Walking.{child_link}
use Rattle.mr_pages.specs.declared.rule.MapFault.{MapFault}
use Rattle.mr_pages.specs.declared.rule.MapRule.TheVariants as rule
use Rattle.mr_split.specs.Split.{sides}
use Rattle.mr_grow.specs.Grow.{grown, leaves_over, nodes_over}
use Rattle.mr_grow.specs.Parts.{first_part, second_part}
use Rattle.mr_edit.specs.PageMap.{PageMap, HasFree, OwnsEachOnce, Agree, with_content, node_content}
use Rattle.mr_edit.specs.declared.error.EditErr.{EditErr}
use Rattle.mr_edit.specs.declared.error.EditErr.TheVariants as errors
use Rattle.mr_edit.specs.Held.{NamesTree, NameTrees, trees, pages}

-- how an insertion uses pages: the file grows only while none is free, and no page is freed
pub record UsesPages (size : ℕ) (chain : List ℕ) (size' : ℕ) (chain' : List ℕ) : Type 0 where
  pub grew : (size' ≡ size) ⊎ (chain' ≡ [])
  pub none : chain ≡ [] → chain' ≡ []
  pub more : size ≤ size'

-- nothing of either is used
abbrev pub Same : ℕ → List ℕ → ℕ → List ℕ → Type 0
Same size chain size' chain' = (size' ≡ size) × (chain' ≡ chain)

-- Afterwards these entries stand for these trees, the free pages are chained from this one, each
-- page has one owner again, and the pages of others are as before.
pub record Outcome (scheme : Scheme) (a : PageMap) (Use : ℕ → List ℕ → Type 0)
    (told : Option PageMap) (free : ℕ) (others : List ℕ) (ts : List Tree) (cs : List Child)
    : Type 0 where
  pub page_map : PageMap
  pub is : told ≡ Some page_map
  pub parts : List Placed
  pub named : NameTrees scheme page_map cs parts
  pub stand : trees parts ≡ ts
  pub chain : List ℕ
  pub linked : IsChain (HasFree page_map) free chain
  pub owned : OwnsEachOnce page_map.size (pages parts ++ (chain ++ others))
  pub kept : Agree a page_map others
  pub use_ : Use page_map.size chain

-- whatever tree an entry stands for, and whatever others own, what is in its place stands for the
-- tree after an insertion
abbrev pub GrowsSubtree : Scheme → (told : Option PageMap) → (free : ℕ) → (told' : Option PageMap) →
    (free' : ℕ) → Child → Record → List Child → Type 0
GrowsSubtree scheme told free told' free' c one out =
    (a : PageMap) (chain : List ℕ) (P : Placed) (others : List ℕ) →
    told ≡ Some a → NamesTree scheme a c P → IsChain (HasFree a) free chain →
    OwnsEachOnce a.size (pages_of P ++ (chain ++ others)) →
    Outcome scheme a (UsesPages a.size chain) told' free' others (grown one (tree_of P)) out

-- what is asked of the write of records on a page, which may take another page
abbrev pub PutsLeaf : Scheme → (told : Option PageMap) → (free : ℕ) →
    (told' : Option PageMap) → (free' : ℕ) → (page : ℕ) → List Record → List Child → Type 0
PutsLeaf scheme told free told' free' page rs out =
    (a : PageMap) (chain others : List ℕ) → told ≡ Some a → IsChain (HasFree a) free chain →
    OwnsEachOnce a.size (page ∷ (chain ++ others)) →
    Outcome scheme a (UsesPages a.size chain) told' free' others (leaves_over rs) out

-- and of entries
abbrev pub PutsInner : Scheme → (told : Option PageMap) → (free : ℕ) →
    (told' : Option PageMap) → (free' : ℕ) → (page : ℕ) → List Child → List Child → Type 0
PutsInner scheme told free told' free' page cs out =
    (a : PageMap) (chain : List ℕ) (Ps : List Placed) (others : List ℕ) → told ≡ Some a →
    NameTrees scheme a cs Ps → IsChain (HasFree a) free chain →
    OwnsEachOnce a.size (page ∷ (pages Ps ++ (chain ++ others))) →
    Outcome scheme a (UsesPages a.size chain) told' free' others (nodes_over (trees Ps)) out

-- a number from the one to the other
pub record IsBetween (least most n : ℕ) : Type 0 where
  pub least_is : least ≤ n
  pub most_is : n ≤ most

-- A list is dealt out to two by the sides of these rectangles, at least so many to each, and no
-- more than a node has.
pub record HalvesList {A : Type 0} (least most : ℕ) (rects : List Rectangle)
    (all first second : List A)
    : Type 0 where
  pub first_is : first ≡ first_part (sides rects least) all
  pub second_is : second ≡ second_part (sides rects least) all
  pub first_size : IsBetween least most (length first)
  pub second_size : IsBetween least most (length second)

-- a page is taken: the first free one, or the file grows
pub record Taken (a : PageMap) (before : List ℕ) (told : Option PageMap) (free page : ℕ) : Type
    0 where
  pub page_map : PageMap
  pub is : told ≡ Some page_map
  pub same : page_map.content ≡ a.content
  pub chain : List ℕ
  pub linked : IsChain (HasFree page_map) free chain
  pub owned : (rest : List ℕ) → OwnsEachOnce a.size (before ++ rest) →
      OwnsEachOnce page_map.size (page ∷ (chain ++ rest))
  pub use_ : UsesPages a.size before page_map.size chain

abbrev pub TakesPage : (told : Option PageMap) → (free : ℕ) → (told' : Option PageMap) →
    (free' : ℕ) →
    (page : ℕ) → Type 0
TakesPage told free told' free' page =
    (a : PageMap) (chain : List ℕ) → told ≡ Some a → IsChain (HasFree a) free chain →
    Taken a chain told' free' page

-- a node is written on a page, and this is said of it
pub record WritesNode (scheme : Scheme) (told : Option PageMap) (free : ℕ)
    (told' : Option PageMap) (free' page : ℕ) (n : Node) (c : Child) : Type 0 where
  pub put : told' ≡ option_map (with_content page (node_content n)) told
  pub same : free' ≡ free
  pub said : child_link c ≡ record { page = page; entry = node_entry scheme n }

-- a page is taken, and an inner node over two entries is written on it
pub record RaisesRoot (scheme : Scheme) (told : Option PageMap) (free : ℕ)
    (told' : Option PageMap) (free' : ℕ) (first second c : Child) : Type 0 where
  pub told_then : Option PageMap
  pub free_then : ℕ
  pub page : ℕ
  pub takes : TakesPage told free told_then free_then page
  pub writes : WritesNode scheme told_then free_then told' free' page
      (Inner (map child_link (first ∷ second ∷ []))) c

-- ---- where the pages are told, no rule of a map is found broken

-- the refusal blames no page, where this holds
abbrev pub NeverMap : EditErr → Type 0 → Type 0
NeverMap (errors.Map fault) holds = holds → ⊥
NeverMap e holds = ⊤

-- the same refusal, but for the page that is blamed
abbrev pub IsAlike : EditErr → EditErr → Type 0
IsAlike (errors.Map fault) e = (other : MapFault) × (e ≡ errors.Map other)
    × (other.rule ≡ fault.rule)
IsAlike other e = e ≡ other

-- the page of a root, 0 where there is none
abbrev pub root_page : Option Child → ℕ
root_page None = 0
root_page (Some c) = c.id

-- a root whose level a map may have
abbrev pub IsLow : Option Child → Type 0
IsLow root = IfSome root (λ c. c.level ≤ level_limit)

-- that a page is none that may stand there is said of page 0 only where this page of the root is 0
abbrev pub IsOfRoot : (root : ℕ) → EditErr → Type 0
IsOfRoot root (errors.Map fault) = fault.rule ≡ rule.Page → fault.page ≡ 0 → root ≡ 0
IsOfRoot root e = ⊤

-- the page is in the file
abbrev pub CanWrite : (told : Option PageMap) → (page : ℕ) → Type 0
CanWrite told page = IsSomeAnd told (λ b. page < b.size)

-- a page can be taken: one is free, or the file may grow
pub record CanTake (told : Option PageMap) (free : ℕ) : Type 0 where
  pub page_map : PageMap
  pub is : told ≡ Some page_map
  pub chain : List ℕ
  pub linked : IsChain (HasFree page_map) free chain
  pub room : chain ≡ [] → page_map.size < page_limit

-- records or entries can be put on a page: there are few pages that are not free, this one and
-- others
pub record CanPut (told : Option PageMap) (free page : ℕ) : Type 0 where
  pub page_map : PageMap
  pub is : told ≡ Some page_map
  pub chain : List ℕ
  pub linked : IsChain (HasFree page_map) free chain
  pub others : List ℕ
  pub owned : OwnsEachOnce page_map.size (page ∷ (chain ++ others))
  pub few : length others + 1 < page_limit
