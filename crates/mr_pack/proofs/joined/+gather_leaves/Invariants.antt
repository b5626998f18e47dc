use Rattle.std.proofs.Common.{◌≡◌, ◌++◌, List, take, map}
use Rattle.std.specs.Borrow.{Bor}
use Rattle.std.specs.List.{flat_map}
use Rattle.mr_record.specs.declared.record.Record.{Record}
use Rattle.mr_tree.specs.Leaves.{leaves}
use Rattle.mr_pack.proofs.joined.+gather_leaves.Given as goal

-- the list has grown by the leaves of the children so far
abbrev pub invariant-loop-child : goal.invariant-loop-child
invariant-loop-child l =
    map (λ (rs : Bor (List Record)). rs.now) l.list.items ≡ map (λ (rs : Bor (List Record)). rs.now) l.fn.list.items
    ++ flat_map leaves (take l.child-index l.child-items)
