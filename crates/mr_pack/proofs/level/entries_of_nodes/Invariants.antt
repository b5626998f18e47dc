use Rattle.std.proofs.Common.{◌≡◌, map, length}
use Rattle.mr_pack.specs.Pack.{placed_nodes}
use Rattle.mr_pack.specs.private.Views.{with_tree}
use Rattle.mr_pack.specs.declared.node.Node.{Node}
use Rattle.mr_pack.proofs.level.entries_of_nodes.Given as goal

abbrev pub invariant-loop-node : goal.invariant-loop-node
invariant-loop-node l = record {
  count : length l.entries.items ≡ length l.yielded;
  so_far : map with_tree l.entries.items ≡ placed_nodes 0 (map (λ (n : Node). n.tree) l.yielded);
}
