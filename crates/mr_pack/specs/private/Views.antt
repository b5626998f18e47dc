-- What the entries of the code stand for.
use Rattle.mr_tree.specs.declared.tree.Tree.{Tree}
use Rattle.mr_pack.specs.declared.placed.Placed.{Placed}
use Rattle.mr_pack.specs.declared.node.Node.{Node}

-- the same place, for what f makes of the item
abbrev pub with_item : {S T : Type 0} → (S → T) → Placed S → Placed T
with_item f e = record { x = e.x; y = e.y; tie = e.tie; item = f e.item }

-- of the tree of a node
abbrev pub with_tree : Placed Node → Placed Tree
with_tree = with_item (λ n. n.tree)
