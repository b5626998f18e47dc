use Rattle.std.proofs.Common.{arith, IsTrue, ◌↔◌}
use Rattle.std.proofs.lemmas.Int.{ints}
use Rattle.mr_geom.specs.Plane.{Inside}
use Rattle.mr_geom.proofs.Planes.{at_both, inside_across, outside_along}
use Rattle.mr_geom.proofs.rect.Rect.inside.Goals as goal

pub returns-then-range_inside : goal.returns-then-range_inside
returns-then-range_inside c =
    let along = c.range_inside.ensures.0 c.if-range_inside.true in
    let across = c.range_inside-then-range_inside.ensures in
    at_both _ _ _ _ (λ a b. IsTrue c.range_inside-then-range_inside.result ↔ Inside a b) c.self.view_is
    c.other.view_is
    (inside_across _ _ _ c.self.invariant
    (omega (arith, ints, along.0))
    (omega (arith, ints, along.1)) (
      λ yes. let both = across.0 yes in (omega (arith, ints, both.0), omega (arith, ints, both.1)),
      λ both. across.1 (omega (arith, ints, both.0), omega (arith, ints, both.1)),
    ))

pub returns-else-range_inside : goal.returns-else-range_inside
returns-else-range_inside c =
    at_both _ _ _ _ (λ a b. IsTrue c.range_inside.result ↔ Inside a b) c.self.view_is c.other.view_is
    (outside_along _ _ _ c.self.invariant c.if-range_inside.false
    (λ both. c.range_inside.ensures.1 (omega (arith, ints, both.0), omega (arith, ints, both.1))))
