use Rattle.std.proofs.Common.{◌≡◌, map, take}
use Rattle.mr_geom.specs.Rectangle.{union_of}
use Rattle.mr_tree.specs.Tree.{rect}
use Rattle.mr_pack.specs.declared.node.Node.{Node}
use Rattle.mr_pack.proofs.level.bounds_of_nodes.Given as goal

abbrev pub invariant-loop-node : goal.invariant-loop-node
invariant-loop-node l = l.all ≡ union_of (map rect (map (λ (n : Node). n.tree) (take l.node-index l.nodes)))
