use Rattle.std.proofs.Common.{◌≡◌, ◌++◌, map, take}
use Rattle.mr_tree.specs.View.{child_entry}
use Rattle.mr_clash.proofs.own.are_own.Given as goal

-- the first ones are those of the children so far
abbrev pub invariant-loop-child : goal.invariant-loop-child
invariant-loop-child l = l.shown ≡ map child_entry (take l.child-index l.children) ++ l.rest
