use Rattle.std.proofs.Common.{◌≡◌, map}
use Rattle.std.specs.Global.{Vec}
use Rattle.mr_tree.specs.declared.tree.Tree.TheVariants as tree
use Rattle.mr_pack.specs.declared.node.Node.{Node}
use Rattle.mr_pack.proofs.level.inner_nodes.Given as goal

-- an inner node of each group so far
abbrev pub invariant-loop-group : goal.invariant-loop-group
invariant-loop-group l =
    map (λ (n : Node). n.tree) l.level.items
    ≡ map (λ (v : Vec Node). tree.Inner (map (λ (n : Node). n.tree) v.items)) l.yielded
