use Rattle.std.proofs.Common.{◌≡◌, ◌+◌, length, drop}
use Rattle.std.specs.List.{flat_map}
use Rattle.mr_tree.specs.Leaves.{leaves}
use Rattle.mr_pack.proofs.joined.+leaf_count.Given as goal

-- the leaves so far, and those of the children that are left, are all
abbrev pub invariant-loop-child : goal.invariant-loop-child
invariant-loop-child l =
    l.sum + length (flat_map leaves (drop l.child-index l.child-items)) ≡ length
    (leaves l.fn.tree)
