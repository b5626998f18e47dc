-- Distances in the plane, squared, in squared map units.
use Rattle.std.specs.Prelude.{◌≡◌, ℕ, ◌+◌, ◌*◌, ◌≤◌, ◌-ℤ◌, unsigned_abs}
use Rattle.std.specs.Int.{int_min, int_max}
use Rattle.mr_geom.specs.Rectangle.{Rectangle}
use Rattle.mr_geom.specs.Plane.{HoldsPoint}
use Rattle.mr_geom.specs.declared.point.Point.{Point}

abbrev pub square : ℕ → ℕ
square n = n * n

-- between two points
abbrev pub squared_distance : Point → Point → ℕ
squared_distance p q = square (unsigned_abs (p.x -ℤ q.x)) + square (unsigned_abs (p.y -ℤ q.y))

-- `n` is the squared distance of the point to the nearest point of the rectangle
pub record IsLeastDistance (r : Rectangle) (p : Point) (n : ℕ) : Type 0 where
  pub reached : (q : Point) × HoldsPoint r q × (squared_distance p q ≡ n)
  pub least : (q : Point) → HoldsPoint r q → n ≤ squared_distance p q

-- the point of an ordered rectangle that is nearest to `p`, which is `p` itself where the rectangle
-- holds it
abbrev pub nearest_point : Rectangle → Point → Point
nearest_point r p = record {
  x = int_max r.x0 (int_min p.x r.x1);
  y = int_max r.y0 (int_min p.y r.y1);
}

-- of a point to the nearest point of an ordered rectangle
unfoldable pub least_squared_distance : Rectangle → Point → ℕ
least_squared_distance r p = squared_distance p (nearest_point r p)
