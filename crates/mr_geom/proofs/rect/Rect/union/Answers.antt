use Rattle.std.proofs.Common.{arith, subst, sym}
use Rattle.std.proofs.lemmas.Int.{ints, clamps}
use Rattle.mr_geom.specs.Rectangle.{Rectangle, union}
use Rattle.mr_geom.specs.Plane.{IsLeastRound}
use Rattle.mr_geom.proofs.Rectangles.{same_rectangle, union_at}
use Rattle.mr_geom.proofs.Planes.{at_both, IsLeastRound-union}
use Rattle.mr_geom.proofs.rect.Rect.union.Goals as goal

pub invariant_of-result : goal.invariant_of-result
invariant_of-result c = record { x = omega (arith, ints, clamps); y = omega (arith, ints, clamps) }

pub returns-clause-value : goal.returns-clause-value
returns-clause-value c =
    union_at _ _ _ _ _ c.self.view_is c.other.view_is
    (same_rectangle _ _
    (omega (arith, ints, clamps))
    (omega (arith, ints, clamps))
    (omega (arith, ints, clamps))
    (omega (arith, ints, clamps)))

pub returns-clause-least : goal.returns-clause-least
returns-clause-least c =
    subst (λ (r : Rectangle). IsLeastRound c.args.self.now c.args.other.now r) (sym (returns-clause-value c))
    (at_both _ _ _ _ (λ a b. IsLeastRound a b (union a b)) c.self.view_is c.other.view_is
    (IsLeastRound-union _ _ c.self.invariant c.other.invariant))
