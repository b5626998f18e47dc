-- Points of the plane, which of them a rectangle holds, and what two rectangles have in common.
use Rattle.std.specs.Prelude.{◌≤ℤ◌, int_le, Bool, ◌&&◌}
use Rattle.mr_geom.specs.Rectangle.{Rectangle, IsOrdered}
use Rattle.mr_geom.specs.declared.point.Point.{Point}

-- the rectangle holds the point, sides included
pub record HoldsPoint (r : Rectangle) (p : Point) : Type 0 where
  pub left : r.x0 ≤ℤ p.x
  pub right : p.x ≤ℤ r.x1
  pub low : r.y0 ≤ℤ p.y
  pub high : p.y ≤ℤ r.y1

-- the two share a point
abbrev pub SharesPoint : Rectangle → Rectangle → Type 0
SharesPoint a b = (p : Point) × HoldsPoint a p × HoldsPoint b p

-- whether two ordered rectangles share a point: neither lies wholly to one side of the other
abbrev pub touches : Rectangle → Rectangle → Bool
touches a b = (int_le a.x0 b.x1 && int_le b.x0 a.x1) && (int_le a.y0 b.y1 && int_le b.y0 a.y1)

-- the first lies in the second: each of its points is one of the second
abbrev pub Inside : Rectangle → Rectangle → Type 0
Inside a b = (p : Point) → HoldsPoint a p → HoldsPoint b p

-- `r` is the least rectangle round `a` and `b`: both lie in it, and it lies in each other rectangle
-- in which both lie
pub record IsLeastRound (a b r : Rectangle) : Type 0 where
  pub ordered : IsOrdered r
  pub first : Inside a r
  pub second : Inside b r
  pub least : (c : Rectangle) → IsOrdered c → Inside a c → Inside b c → Inside r c
