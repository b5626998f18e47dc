use Rattle.std.proofs.Common.{◌≡◌, drop}
use Rattle.std.specs.List.{flat_map}
use Rattle.mr_tree.specs.Tree.{records}
use Rattle.mr_grow.specs.Found.{has}
use Rattle.mr_grow.proofs.finding.+has.Given as goal

-- the children that are left have it, or none does
abbrev pub invariant-loop-child : goal.invariant-loop-child
invariant-loop-child l = has l.number (flat_map records (drop l.child-index l.child-items)) ≡ has l.number
    (records l.fn.tree)
