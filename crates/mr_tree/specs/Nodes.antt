-- What an object stands for that hands out the nodes of a map one by one, and what a fetch shows.
use Rattle.std.specs.Prelude.{◌≡◌, ◌≢◌, ℕ, ◌<◌, ◌≤◌, ◌↔◌, ⊤, List, [], ◌∷◌, ◌++◌, map, length, All, Option, Some, None, IfSome, IsSome, IsSomeAnd, IsNone, Result, Err, OnOk, slice_get}
use Rattle.std.specs.List.{flat_map}
use Rattle.mr_outside.specs.Faults.{Rose}
use Rattle.mr_outside.specs.declared.shelf.ShelfErr.{ShelfErr}
use Rattle.mr_outside.specs.declared.shelf.ShelfErr.TheVariants as shelf
use Rattle.mr_tree.specs.Limits.{count_limit, level_limit}
use Rattle.mr_tree.specs.Tree.{records}
use Rattle.mr_record.specs.declared.version.Version.{Version}
use Rattle.mr_record.specs.Version.{told}
use Rattle.mr_tree.specs.Digest.{by, entry, no_entry}
use Rattle.mr_tree.specs.declared.entry.Entry.{Entry}
use Rattle.mr_tree.specs.View.{Node, MayTell, AreTold, children_in, size, level_of, child_entry, preimage_of}
use Rattle.mr_tree.specs.declared.child.Child.{Child}
use Rattle.mr_tree.specs.declared.nodes.NodesErr.{NodesErr}
use Rattle.mr_tree.specs.declared.nodes.NodesErr.TheVariants.{Changed, Page, Outside, Missing, Fault, NoMemory}
use Rattle.mr_tree.specs.declared.nodes.Top.{Top}
use Rattle.mr_tree.specs.declared.tree.Tree.{Tree}
use Rattle.mr_tree.specs.declared.tree.Tree.TheVariants as variants
use Rattle.mr_tree.specs.declared.tree.Tree.TheOpen.{Tree-F, Empty, Leaf, Inner}
use Rattle.mr_tree.specs.declared.tree.Tree.TheFolds.{para-Tree}

-- a node, once each child has given its tree and the subtrees of that
abbrev pub subtrees_step : Tree-F (Tree × List Tree) → List Tree
subtrees_step Empty = []
subtrees_step (Leaf records) = variants.Leaf records ∷ []
subtrees_step (Inner children) =
    flat_map (λ (c : Tree × List Tree). c.1) children
    ++ variants.Inner (map (λ (c : Tree × List Tree). c.0) children) ∷ []

-- the trees under all nodes of a tree, children before their parent, from left to right
abbrev pub subtrees : Tree → List Tree
subtrees = para-Tree (List Tree) subtrees_step

-- what no call changes
pub record MapModel : Type 0 where
  pub version : Version
  pub batch : ℕ
  -- ids are from 1 and below it
  pub span : ℕ
  -- the map's tree, where it is told
  pub tree : Option Tree
  -- the tree under the node with this id, where there is one and the map's tree is told
  pub node : ℕ → Option Tree

-- Each node of this tree has an id of its own: `id` gives that of the node at each place of
-- `subtrees`. No other id stands for a node.
pub record HasIds (s : MapModel) (t : Tree) : Type 0 where
  pub id : ℕ → ℕ
  pub within : (k : ℕ) → k < length (subtrees t) → (1 ≤ id k) × (id k < s.span)
  pub shows : (k : ℕ) → k < length (subtrees t) → s.node (id k) ≡ slice_get (subtrees t) k
  pub apart : (j k : ℕ) → j < length (subtrees t) → k < length (subtrees t) → id j ≡ id k → j ≡ k
  pub others : (i : ℕ) → IsSome (s.node i) → (k : ℕ) × (k < length (subtrees t)) × (id k ≡ i)

-- the child is the entry of the node with its id
abbrev pub IsEntry : (List ℕ → List ℕ) → MapModel → Child → Type 0
IsEntry hash s c = IsSomeAnd (s.node c.id) (λ t. child_entry c ≡ entry (by s.version hash) t)

-- the child may be fetched
pub record MayFetch (hash : List ℕ → List ℕ) (s : MapModel) (c : Child) : Type 0 where
  pub positive : 1 ≤ c.id
  pub within : c.id < s.span
  pub low : c.level ≤ level_limit
  pub known : IsSome s.tree → IsEntry hash s c

-- the node that a view shows is the uppermost one of this tree, and the ids of its children are
-- those of the nodes below it
abbrev pub IsNodeOf : MapModel → Tree → Node → Type 0
IsNodeOf s t Empty = ⊥
IsNodeOf s t (Leaf records) = t ≡ variants.Leaf records
IsNodeOf s t (Inner children) =
    (ts : List Tree) × (t ≡ variants.Inner ts)
    × (map (λ (c : Child). s.node c.id) children ≡ map Some ts)

-- what a fetch of this child shows
pub record ShowsNode (hash : List ℕ → List ℕ) (s : MapModel) (c : Child) (n : Node) : Type 0 where
  pub some : 1 ≤ size n
  pub level : level_of n ≡ c.level
  pub digest : hash (preimage_of s.version n) ≡ c.digest
  -- what its version may tell
  pub told : AreTold s.version n
  -- each child may be fetched in its turn
  pub children : All (MayFetch hash s) (children_in n)
  pub node : IfSome (s.node c.id) (λ t. IsNodeOf s t n)

-- the tree under a root entry, and the empty one where there is none
abbrev pub tree_under : MapModel → Option Child → Option Tree
tree_under s None = Some variants.Empty
tree_under s (Some c) = s.node c.id

-- what a map says of its root node, which a map without records has not
abbrev pub root_entry : Option Child → Entry
root_entry None = no_entry
root_entry (Some c) = child_entry c

-- what is said of the map as a whole
pub record IsTop (hash : List ℕ → List ℕ) (s : MapModel) (top : Top) : Type 0 where
  pub version : top.version ≡ s.version
  pub batch : top.batch ≡ s.batch
  pub few : top.count ≤ count_limit
  pub none : (top.count ≡ 0) ↔ IsNone top.root
  pub root : IfSome top.root (MayFetch hash s)
  pub count : IfSome s.tree (λ t. top.count ≡ length (records t))
  -- what its version may tell of the root, whose records are those of the map
  pub told : IfSome top.root
      (λ c. MayTell s.version c.mask c.count × (c.count ≡ told s.version top.count))
  pub tree : IfSome s.tree (λ t. tree_under s top.root ≡ Some t)

-- this is the id of a node that may be asked for
abbrev pub IsId : MapModel → ℕ → Type 0
IsId s id = (1 ≤ id) × (id < s.span)

-- What a fetch refused is what is answered: where the last refusal is another one than before, it
-- is the answer, in the words of the call; and where the call succeeds it is the one of before.
pub record TellsRefusal {A E : Type 0} (in_words : NodesErr → E) (before after : Option NodesErr)
    (result : Result A E) : Type 0 where
  pub last : (e : NodesErr) → after ≡ Some e → before ≢ Some e → result ≡ Err (in_words e)
  pub none : OnOk result (after ≡ before)

-- a shelf's refusal in a fetch's own words
abbrev pub of_shelf : ShelfErr → NodesErr
of_shelf shelf.Missing = Missing
of_shelf shelf.Fault = Fault
of_shelf shelf.NoMemory = NoMemory

-- Why this child may be refused, between these counts of faults. What was read is blamed only where
-- the tree is not told: by the child's own page, or by a page that is not in the file; and then no
-- fault was counted. Where the tree is told, its file is there.
abbrev pub HasFetchCause : MapModel → Child → (before after : ℕ) → NodesErr → Type 0
HasFetchCause s c before after (Changed page held found) = IsNone s.tree × (page ≡ c.id)
    × (held ≡ c.digest) × (held ≢ found) × (after ≡ before)
HasFetchCause s c before after (Page page) = IsNone s.tree × (page ≡ c.id) × (after ≡ before)
HasFetchCause s c before after (Outside page) = IsNone s.tree × (1 ≤ page → s.span ≤ page)
    × (after ≡ before)
HasFetchCause s c before after Missing = IsNone s.tree × Rose before after
HasFetchCause s c before after Fault = Rose before after
HasFetchCause s c before after NoMemory = ⊤

-- why some child may be refused that may be asked for
abbrev pub HasSomeCause : MapModel → (before after : ℕ) → NodesErr → Type 0
HasSomeCause s before after (Changed page held found) = IsNone s.tree × IsId s page
    × (held ≢ found) × (after ≡ before)
HasSomeCause s before after (Page page) = IsNone s.tree × IsId s page × (after ≡ before)
HasSomeCause s before after (Outside page) = IsNone s.tree × (1 ≤ page → s.span ≤ page)
    × (after ≡ before)
HasSomeCause s before after Missing = IsNone s.tree × Rose before after
HasSomeCause s before after Fault = Rose before after
HasSomeCause s before after NoMemory = ⊤
