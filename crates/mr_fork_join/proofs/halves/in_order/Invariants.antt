use Rattle.std.proofs.Common.{◌≡◌, take, map}
use Rattle.mr_fork_join.proofs.halves.in_order.Given as goal

-- what the pieces so far give
abbrev pub invariant-loop-i : goal.invariant-loop-i
invariant-loop-i g l = l.all.items ≡ map (g.W.Work.gives l.work) (take l.i l.pieces)
