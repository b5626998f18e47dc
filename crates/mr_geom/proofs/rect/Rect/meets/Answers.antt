use Rattle.std.proofs.Common.{arith, IsTrue, ◌↔◌}
use Rattle.std.proofs.lemmas.Int.{ints}
use Rattle.mr_geom.specs.Plane.{SharesPoint}
use Rattle.mr_geom.proofs.Planes.{at_both, meets_across, misses_along, touches_at}
use Rattle.mr_geom.proofs.rect.Rect.meets.Goals as goal

pub returns-then-ranges_meet-clause-shared : goal.returns-then-ranges_meet-clause-shared
returns-then-ranges_meet-clause-shared c =
    let met = c.ranges_meet.ensures.0 c.if-ranges_meet.true in
    let across = c.ranges_meet-then-ranges_meet.ensures in
    at_both _ _ _ _ (λ a b. IsTrue c.ranges_meet-then-ranges_meet.result ↔ SharesPoint a b) c.self.view_is
    c.other.view_is
    (meets_across _ _ _ c.self.invariant c.other.invariant
    (omega (arith, ints, met.0))
    (omega (arith, ints, met.1)) (
      λ yes. let both = across.0 yes in (omega (arith, ints, both.0), omega (arith, ints, both.1)),
      λ both. across.1 (omega (arith, ints, both.0), omega (arith, ints, both.1)),
    ))

pub returns-else-ranges_meet-clause-shared : goal.returns-else-ranges_meet-clause-shared
returns-else-ranges_meet-clause-shared c =
    at_both _ _ _ _ (λ a b. IsTrue c.ranges_meet.result ↔ SharesPoint a b) c.self.view_is c.other.view_is
    (misses_along _ _ _ c.if-ranges_meet.false
    (λ both. c.ranges_meet.ensures.1 (omega (arith, ints, both.0), omega (arith, ints, both.1))))

pub returns-then-ranges_meet-clause-test : goal.returns-then-ranges_meet-clause-test
returns-then-ranges_meet-clause-test c =
    touches_at _ _ _ _ c.ranges_meet-then-ranges_meet.result c.self.view_is c.other.view_is
    c.self.invariant c.other.invariant (returns-then-ranges_meet-clause-shared c)

pub returns-else-ranges_meet-clause-test : goal.returns-else-ranges_meet-clause-test
returns-else-ranges_meet-clause-test c =
    touches_at _ _ _ _ c.ranges_meet.result c.self.view_is c.other.view_is
    c.self.invariant c.other.invariant (returns-else-ranges_meet-clause-shared c)
