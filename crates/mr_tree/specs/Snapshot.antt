-- A whole tree kept as a list of its nodes, children before their parent: the node with id i stands
-- at place i - 1.
use Rattle.std.specs.Prelude.{◌≡◌, ℕ, zero, suc, ◌+◌, ◌-◌, ◌≤◌, List, [], ◌∷◌, ◌++◌, map, length, get_or, fold, All, Option, Some, None, IfSome, slice_get}
use Rattle.mr_tree.specs.Limits.{level_limit, leaf_limit, inner_limit}
use Rattle.mr_record.specs.Record.{HasLayer}
use Rattle.mr_record.specs.declared.version.Version.{Version}
use Rattle.mr_record.specs.declared.version.Version.TheVariants.{Two}
use Rattle.mr_tree.specs.Digest.{Scheme, by, entry}
use Rattle.mr_tree.specs.View.{Node, records_in, children_in, HasCount, AreTold, size, level_of, child_entry}
use Rattle.mr_tree.specs.Nodes.{MapModel, IsTop, subtrees}
use Rattle.mr_tree.specs.declared.child.Child.{Child}
use Rattle.mr_tree.specs.declared.nodes.Top.{Top}
use Rattle.mr_tree.specs.declared.stored.Stored.{Stored}
use Rattle.mr_tree.specs.declared.stored.Stored.TheVariants.{Records, Children}
use Rattle.mr_tree.specs.declared.tree.Tree.{Tree}
use Rattle.mr_tree.specs.declared.tree.Tree.TheVariants as variants
use Rattle.mr_tree.specs.declared.tree.Tree.TheOpen.{Leaf, Inner}

-- the tree with this id, of trees of which the first has id 1
abbrev pub with_id : List Tree → ℕ → Option Tree
with_id ts zero = None
with_id ts (suc i) = slice_get ts i

-- what the snapshot of a tree at a batch stands for, in a version
abbrev pub tree_model : Version → (batch : ℕ) → Tree → MapModel
tree_model v batch t = record {
  version = v;
  batch = batch;
  span = length (subtrees t) + 1;
  tree = Some t;
  node = with_id (subtrees t);
}

-- ---- the trees under the nodes of a list

abbrev pub node_of : Stored → Node
node_of (Records records) = Leaf records
node_of (Children children) = Inner children

abbrev pub tree_at : List Tree → ℕ → Tree
tree_at ts id = get_or ts (id - 1) variants.Empty

-- the tree under a node, from those of its children
abbrev pub tree_over : List Tree → Stored → Tree
tree_over ts (Records records) = variants.Leaf records
tree_over ts (Children children) =
    variants.Inner (map (λ (c : Child). tree_at ts c.id) children)

abbrev pub add_tree : List Tree → Stored → List Tree
add_tree ts n = ts ++ tree_over ts n ∷ []

abbrev pub trees : List Stored → List Tree
trees = fold add_tree []

-- the tree of the map, which has no node where it has no root entry
abbrev pub root_tree : List Tree → Option Child → Tree
root_tree ts None = variants.Empty
root_tree ts (Some c) = tree_at ts c.id

abbrev pub tree_of : List Stored → Top → Tree
tree_of ns top = root_tree (trees ns) top.root

abbrev pub snapshot_model : List Stored → Top → MapModel
snapshot_model ns top = tree_model top.version top.batch (tree_of ns top)

-- ---- which lists of nodes are a tree's

-- a node with as many records or children as a view takes
pub record HasShape (n : Node) : Type 0 where
  pub some : 1 ≤ size n
  pub brief : length (records_in n) ≤ leaf_limit
  pub few : length (children_in n) ≤ inner_limit
  pub low : level_of n ≤ level_limit
  pub alike : All (λ (c : Child). c.level + 1 ≡ level_of n) (children_in n)
  pub layers : All (HasLayer Two) (records_in n)
  pub counts : All HasCount (children_in n)

-- the child is the entry of the tree with its id
pub record IsLinked (s : Scheme) (ts : List Tree) (c : Child) : Type 0 where
  pub positive : 1 ≤ c.id
  pub within : c.id ≤ length ts
  pub entry : child_entry c ≡ entry s (tree_at ts c.id)

pub record IsNode (s : Scheme) (ts : List Tree) (n : Stored) : Type 0 where
  pub shape : HasShape (node_of n)
  pub links : All (IsLinked s ts) (children_in (node_of n))
  pub told : AreTold s.version (node_of n)

-- each node is linked to nodes that stand before it
pub record AreLinked (s : Scheme) (ns : List Stored) : Type 0 where
  pub each : All (IsNode s (trees ns)) ns
  pub over : map (tree_over (trees ns)) ns ≡ trees ns

-- they are the nodes of the tree of the map, of which this is the head
pub record IsSnapshot (hash : List ℕ → List ℕ) (ns : List Stored) (top : Top) : Type 0 where
  pub linked : AreLinked (by top.version hash) ns
  pub whole : trees ns ≡ subtrees (tree_of ns top)
  pub head : IsTop hash (snapshot_model ns top) top

-- nodes were put behind the others, which stand for `more` trees, and this is the entry of `t`
pub record IsPlaced (s : Scheme) (old new : List Stored) (c : Child) (t : Tree)
    (more : List Tree) : Type 0 where
  pub linked : AreLinked s new
  pub grown : trees new ≡ trees old ++ more
  pub link : IsLinked s (trees new) c
  pub here : tree_at (trees new) c.id ≡ t

-- the nodes are those of the tree, of which this is the root entry
pub record IsRooted (s : Scheme) (ns : List Stored) (entry : Option Child) (t : Tree) :
    Type 0 where
  pub linked : AreLinked s ns
  pub whole : trees ns ≡ subtrees t
  pub tree : root_tree (trees ns) entry ≡ t
  pub root : IfSome entry (IsLinked s (trees ns))
