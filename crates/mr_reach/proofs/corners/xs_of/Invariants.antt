use Rattle.std.proofs.Common.{◌≡◌, take}
use Rattle.mr_reach.specs.private.Corners.{xs_in}
use Rattle.mr_reach.proofs.corners.xs_of.Given as goal

-- of the first ones
abbrev pub invariant-loop-point : goal.invariant-loop-point
invariant-loop-point l = l.xs.items ≡ xs_in (take l.point-index l.points)
