-- What the values of the code stand for, and what insertion needs of a tree.
use Rattle.std.specs.Prelude.{⊤, ◌<◌, ◌≤◌, length, List, ◌∷◌}
use Rattle.std.specs.Option.{option_to_list}
use Rattle.mr_tree.specs.Limits.{leaf_limit, inner_limit}
use Rattle.mr_tree.specs.declared.tree.Tree.{Tree}
use Rattle.mr_tree.specs.declared.tree.Tree.TheOpen.{Tree-F, Empty, Leaf, Inner}
use Rattle.mr_tree.specs.declared.tree.Tree.TheViews.{out-Tree}
use Rattle.mr_tree.specs.declared.tree.Tree.TheFolds.{every-Tree}
use Rattle.mr_tree.specs.WellFormed.{HasOneLevel, IsFilledRoot}
use Rattle.mr_grow.specs.declared.nodes.Inserted.{Inserted}

-- the nodes in a subtree's place
abbrev pub nodes_of : Inserted → List Tree
nodes_of s = s.first ∷ option_to_list s.second

-- each inner node has a child, and no node has more entries than it may
abbrev pub HasRoom : Tree-F Tree → Type 0
HasRoom Empty = ⊤
HasRoom (Leaf records) = length records ≤ leaf_limit
HasRoom (Inner children) = (0 < length children) × (length children ≤ inner_limit)

-- a tree whose nodes have one level below each and the entries that they may have
pub record IsRooted (t : Tree) : Type 0 where
  pub one_level : every-Tree HasOneLevel t
  pub filled : IsFilledRoot (out-Tree t)
