use Rattle.std.proofs.Common.{◌≡◌, All, map, take}
use Rattle.mr_geom.specs.Rectangle.{IsOrdered}
use Rattle.mr_reach.specs.private.Meeting.{corner_of}
use Rattle.mr_reach.proofs.reach.points_of.Given as goal

-- of the first ones
abbrev pub invariant-loop-rect : goal.invariant-loop-rect
invariant-loop-rect l = record {
  are : l.points.items ≡ map (corner_of l.right l.upper) (take l.rect-index l.list);
  ordered : All IsOrdered (take l.rect-index l.list);
}
