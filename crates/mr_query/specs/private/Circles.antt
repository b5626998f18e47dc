-- That a circle which meets a rectangle meets each that contains it. This serves the check.
use Rattle.std.specs.Prelude.{ℕ, ◌≤◌}
use Rattle.std.proofs.Common.{arith}
use Rattle.mr_geom.specs.Rectangle.{Rectangle, IsOrdered}
use Rattle.mr_geom.specs.Plane.{Inside}
use Rattle.mr_geom.specs.Distance.{least_squared_distance}
use Rattle.mr_geom.specs.declared.point.Point.{Point}
use Rattle.mr_geom.proofs.Distances.{least_squared_distance-Inside}

pub circle_widens : (p : Point) (n : ℕ) (a b : Rectangle) → IsOrdered a → Inside a b
    → least_squared_distance a p ≤ n → least_squared_distance b p ≤ n
circle_widens p n a b ordered inside met =
    let nearer : least_squared_distance b p ≤ least_squared_distance a p =
    least_squared_distance-Inside a b p ordered inside in
    omega arith
