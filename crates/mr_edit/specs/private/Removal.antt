-- What a deletion leaves.
use Rattle.std.specs.Prelude.{◌≡◌, ℕ, ◌≤◌, Bool, true, false, List, [], ◌∷◌, ◌++◌, map, Option, Some, None}
use Rattle.std.specs.List.{flat_map, AllByRecursion}
use Rattle.std.specs.Option.{option_to_list}
use Rattle.mr_geom.specs.Rectangle.{Rectangle}
use Rattle.mr_record.specs.declared.record.Record.{Record}
use Rattle.mr_tree.specs.Digest.{Scheme}
use Rattle.mr_tree.specs.Tree.{records}
use Rattle.mr_tree.specs.declared.child.Child.{Child}
use Rattle.mr_tree.specs.declared.tree.Tree.{Tree}
use Rattle.mr_tree.specs.declared.tree.Tree.TheVariants as tree
use Rattle.mr_tree.specs.declared.tree.Tree.TheOpen.{Tree-F, Empty}
use Rattle.mr_tree.specs.declared.tree.Tree.TheViews.{out-Tree}
use Rattle.mr_pages.specs.Stands.{Placed, tree_of, pages_of, IsChain}
use Rattle.mr_grow.specs.Found.{has}
use Rattle.mr_grow.specs.Shrink.{Rest, stays, set_aside, shrunk, shortened}
use Rattle.mr_edit.specs.PageMap.{PageMap, HasFree, OwnsEachOnce, Agree, count_in}
use Rattle.mr_edit.specs.Held.{NamesTree, NameTrees, trees, pages}
use Rattle.mr_edit.specs.Outcome.{Outcome}
use Rattle.mr_edit.specs.declared.removal.Removal.{Removal}

-- pages are free again
pub record Freed (a : PageMap) (told : Option PageMap) (free : ℕ) (others : List ℕ) : Type 0 where
  pub page_map : PageMap
  pub is : told ≡ Some page_map
  pub chain : List ℕ
  pub linked : IsChain (HasFree page_map) free chain
  pub owned : OwnsEachOnce page_map.size (chain ++ others)
  pub kept : Agree a page_map others
  pub size : page_map.size ≡ a.size

abbrev pub FreesPage : (told : Option PageMap) → (free : ℕ) → (told' : Option PageMap) →
    (free' : ℕ) →
    (page : ℕ) → Type 0
FreesPage told free told' free' page =
    (a : PageMap) (chain others : List ℕ) → told ≡ Some a → IsChain (HasFree a) free chain →
    OwnsEachOnce a.size (page ∷ (chain ++ others)) → Freed a told' free' others

-- the pages of some subtrees are free again, and the records in them are listed
abbrev pub FreesSubtrees : Scheme → (told : Option PageMap) → (free : ℕ) →
    (told' : Option PageMap) →
    (free' : ℕ) → List Child → (before after : List Record) → Type 0
FreesSubtrees scheme told free told' free' cs before after =
    (a : PageMap) (chain : List ℕ) (Ps : List Placed) (others : List ℕ) → told ≡ Some a →
    NameTrees scheme a cs Ps → IsChain (HasFree a) free chain →
    OwnsEachOnce a.size (pages Ps ++ (chain ++ others)) →
    Freed a told' free' others × (after ≡ before ++ flat_map records (trees Ps))

-- a tree as the entries of a root: none where it is empty
abbrev pub topped_step : Tree-F Tree → Tree → List Tree
topped_step Empty t = []
topped_step _ t = t ∷ []

abbrev pub topped : Tree → List Tree
topped t = topped_step (out-Tree t) t

-- what stays of what is left of a subtree, and what is set aside: of a root and of another node
abbrev pub stays_of : (root : Bool) → Rest → List Tree
stays_of true r = topped (shortened r.tree)
stays_of false r = stays r

abbrev pub aside_of : (root : Bool) → Rest → List Record
aside_of true r = r.aside
aside_of false r = set_aside r

-- What stands in the place of a subtree of which this is left, and what is set aside then; no page
-- was taken.
pub record LeavesSubtree (scheme : Scheme) (root : Bool) (a : PageMap) (told : Option PageMap)
    (free : ℕ)
    (others : List ℕ) (r : Rest) (cs : List Child) (aside : List Record) : Type 0 where
  pub outcome : Outcome scheme a (λ size chain. size ≡ a.size) told free others
      (stays_of root r) cs
  pub aside_is : aside ≡ aside_of root r

-- what is asked of the write of what is left of a leaf
abbrev pub LeavesLeaf : Scheme → (root : Bool) → (told : Option PageMap) → (free : ℕ) →
    (told' : Option PageMap) → (free' : ℕ) → (page : ℕ) → List Record → List Child →
    (aside : List Record) → Type 0
LeavesLeaf scheme root told free told' free' page rs out aside =
    (a : PageMap) (chain others : List ℕ) → told ≡ Some a → IsChain (HasFree a) free chain →
    OwnsEachOnce a.size (page ∷ (chain ++ others)) →
    LeavesSubtree scheme root a told' free' others (record { tree = tree.Leaf rs; aside = [] })
    out aside

-- and of an inner node, below which some records were set aside already
abbrev pub LeavesInner : Scheme → (root : Bool) → (told : Option PageMap) → (free : ℕ) →
    (told' : Option PageMap) → (free' : ℕ) → (page : ℕ) → List Child → (before : List Record) →
    List Child → (aside : List Record) → Type 0
LeavesInner scheme root told free told' free' page cs before out aside =
    (a : PageMap) (chain : List ℕ) (Ps : List Placed) (others : List ℕ) → told ≡ Some a →
    NameTrees scheme a cs Ps → IsChain (HasFree a) free chain →
    OwnsEachOnce a.size (page ∷ (pages Ps ++ (chain ++ others))) →
    LeavesSubtree scheme root a told' free' others (record {
      tree = tree.Inner (trees Ps);
      aside =
          before;
    })
    out aside

-- each record with this number has this rectangle
abbrev pub HaveRect : ℕ → Rectangle → List Record → Type 0
HaveRect n rect rs = AllByRecursion (λ (r : Record). r.number ≡ n → r.rect ≡ rect) rs

abbrev pub numbers_in : List Record → List ℕ
numbers_in rs = map (λ (r : Record). r.number) rs

-- the number stands at most once
abbrev pub IsOnce : ℕ → List Record → Type 0
IsOnce n rs = count_in n (numbers_in rs) ≤ 1

-- whatever tree an entry stands for in which the number stands once at most and has this rectangle,
-- the record is there, and this is left of the tree
abbrev pub RemovesRecord : Scheme → (root : Bool) → (told : Option PageMap) → (free : ℕ) →
    (told' : Option PageMap) → (free' : ℕ) → Child → ℕ → Rectangle → List Child →
    (aside : List Record) → Type 0
RemovesRecord scheme root told free told' free' c n rect out aside =
    (a : PageMap) (chain : List ℕ) (P : Placed) (others : List ℕ) →
    told ≡ Some a → NamesTree scheme a c P → IsChain (HasFree a) free chain →
    OwnsEachOnce a.size (pages_of P ++ (chain ++ others)) → HaveRect n rect (records (tree_of P)) →
    IsOnce n (records (tree_of P)) → (has n (records (tree_of P)) ≡ true)
    × LeavesSubtree scheme root a told' free' others (shrunk n (tree_of P)) out aside

-- the record is not there
abbrev pub LacksRecord : Scheme → (told : Option PageMap) → Child → ℕ → Rectangle → Type 0
LacksRecord scheme told c n rect =
    (a : PageMap) (P : Placed) → told ≡ Some a → NamesTree scheme a c P →
    HaveRect n rect (records (tree_of P)) → has n (records (tree_of P)) ≡ false

-- what a search of a subtree answers: the record is not there, and nothing was done; or it was
abbrev pub SearchesSubtree : Scheme → (root : Bool) → (told : Option PageMap) → (free : ℕ) →
    (told' : Option PageMap) → (free' : ℕ) → Child → ℕ → Rectangle → Option Removal → Type 0
SearchesSubtree scheme root told free told' free' c n rect None =
    (told' ≡ told) × (free' ≡ free) × LacksRecord scheme told c n rect
SearchesSubtree scheme root told free told' free' c n rect (Some l) =
    RemovesRecord scheme root told free told' free' c n rect (option_to_list l.entry) l.aside.items

-- a root that is an inner node of one child gives way to that, as often as it may be
abbrev pub ShortensRoot : Scheme → (told : Option PageMap) → (free : ℕ) →
    (told' : Option PageMap) → (free' : ℕ) → Child → Child → Type 0
ShortensRoot scheme told free told' free' c out =
    (a : PageMap) (chain : List ℕ) (P : Placed) (others : List ℕ) →
    told ≡ Some a → NamesTree scheme a c P → IsChain (HasFree a) free chain →
    OwnsEachOnce a.size (pages_of P ++ (chain ++ others)) →
    Outcome scheme a (λ size chain. size ≡ a.size) told' free' others (shortened (tree_of P) ∷ [])
    (out ∷ [])
