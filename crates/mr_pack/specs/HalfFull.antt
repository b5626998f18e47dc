-- How full the nodes of a packed tree are.
use Rattle.std.specs.Prelude.{⊤, ◌≤◌, length, All}
use Rattle.mr_tree.specs.declared.tree.Tree.{Tree}
use Rattle.mr_tree.specs.declared.tree.Tree.TheOpen.{Tree-F, Empty, Leaf, Inner}
use Rattle.mr_tree.specs.declared.tree.Tree.TheViews.{out-Tree}
use Rattle.mr_tree.specs.declared.tree.Tree.TheFolds.{every-Tree}

-- at least half of the capacity of a node is used
abbrev pub IsHalfFull : Tree-F Tree → Type 0
IsHalfFull Empty = ⊤
IsHalfFull (Leaf records) = 8 ≤ length records
IsHalfFull (Inner children) = 32 ≤ length children

-- so are all nodes but this one
abbrev pub AreChildrenHalfFull : Tree-F Tree → Type 0
AreChildrenHalfFull Empty = ⊤
AreChildrenHalfFull (Leaf records) = ⊤
AreChildrenHalfFull (Inner children) = All (every-Tree IsHalfFull) children

-- so are all nodes but the root
abbrev pub IsHalfFullBelow : Tree → Type 0
IsHalfFullBelow t = AreChildrenHalfFull (out-Tree t)
