-- Rectangles by their corners, and how many of them a rectangle meets.
use Rattle.std.specs.Prelude.{Bool, true, false, if◌then◌else◌, List, map, All}
use Rattle.mr_geom.specs.Rectangle.{Rectangle, IsOrdered}
use Rattle.mr_geom.specs.declared.point.Point.{Point}
use Rattle.mr_reach.specs.private.Corners.{Axes, CountsCorners}

-- the right or the left one, of the upper or of the lower ones
abbrev pub corner_of : Bool → Bool → Rectangle → Point
corner_of right upper r =
    record { x = if right then r.x1 else r.x0; y = if upper then r.y1 else r.y0 }

-- the corners of ordered rectangles
pub record HasCorners
    (list : List Rectangle) (lower_left upper_left lower_right upper_right : Axes) : Type 0 where
  pub ordered : All IsOrdered list
  pub low_left : CountsCorners (map (corner_of false false) list) lower_left
  pub high_left : CountsCorners (map (corner_of false true) list) upper_left
  pub low_right : CountsCorners (map (corner_of true false) list) lower_right
  pub high_right : CountsCorners (map (corner_of true true) list) upper_right
