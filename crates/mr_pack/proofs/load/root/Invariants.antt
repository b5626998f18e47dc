use Rattle.std.proofs.Common.{◌≡◌, ◌≤◌, map, length}
use Rattle.mr_pack.specs.Pack.{root_above}
use Rattle.mr_pack.specs.declared.node.Node.{Node}
use Rattle.mr_pack.proofs.load.root.Given as goal

-- the root above this level is the root above the first
abbrev pub invariant-loop-alloc : goal.invariant-loop-alloc
invariant-loop-alloc l = record {
  few : length l.level.items ≤ 1048576;
  root : root_above (length l.level.items) (map (λ (n : Node). n.tree) l.level.items) ≡ root_above
      (length l.fn.level.items) (map (λ (n : Node). n.tree) l.fn.level.items);
}

abbrev pub decreases-loop-alloc : goal.decreases-loop-alloc
decreases-loop-alloc l = length l.level.items
