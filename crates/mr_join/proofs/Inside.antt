-- Rectangles that lie in one another.
use Rattle.std.proofs.Common.{◌≤◌, arith}
use Rattle.std.proofs.lemmas.Int.{ints, clamps}
use Rattle.mr_geom.specs.Rectangle.{Rectangle, union}
use Rattle.mr_geom.proofs.Planes.{SidesMeet, SidesInside}

pub meets_outer : (q a b : Rectangle) → SidesMeet q a → SidesInside a b → SidesMeet q b
meets_outer q a b s t =
    let left = s.left in
    let right = s.right in
    let low = s.low in
    let high = s.high in
    let west = t.left in
    let east = t.right in
    let south = t.low in
    let north = t.high in
    record {
      left = omega (arith, ints);
      right = omega (arith, ints);
      low = omega (arith, ints);
      high = omega (arith, ints);
    }

pub inside_itself : (a : Rectangle) → SidesInside a a
inside_itself a = record {
  left = omega (arith, ints);
  right = omega (arith, ints);
  low = omega (arith, ints);
  high = omega (arith, ints);
}

pub inside_through : (a b c : Rectangle) → SidesInside a b → SidesInside b c → SidesInside a c
inside_through a b c s t =
    let left = s.left in
    let right = s.right in
    let low = s.low in
    let high = s.high in
    let west = t.left in
    let east = t.right in
    let south = t.low in
    let north = t.high in
    record {
      left = omega (arith, ints);
      right = omega (arith, ints);
      low = omega (arith, ints);
      high = omega (arith, ints);
    }

pub in_first : (a b : Rectangle) → SidesInside a (union a b)
in_first a b = record {
  left = omega (arith, ints, clamps);
  right = omega (arith, ints, clamps);
  low = omega (arith, ints, clamps);
  high = omega (arith, ints, clamps);
}

pub in_second : (a b : Rectangle) → SidesInside b (union a b)
in_second a b = record {
  left = omega (arith, ints, clamps);
  right = omega (arith, ints, clamps);
  low = omega (arith, ints, clamps);
  high = omega (arith, ints, clamps);
}
