use Rattle.std.proofs.Common.{◌≡◌, take}
use Rattle.mr_reach.specs.private.Corners.{ys_in}
use Rattle.mr_reach.proofs.corners.ys_of.Given as goal

-- of the first ones
abbrev pub invariant-loop-point : goal.invariant-loop-point
invariant-loop-point l = l.ys.items ≡ ys_in (take l.point-index l.points)
