use Rattle.std.proofs.Common.{◌≡◌, ◌↔◌, ℕ, ℤ, to_z, of_z, w32, ◌-ℤ◌, ◌∙◌, sym, arith, ap, subst}
use Rattle.std.proofs.lemmas.Int.{ints}
use Rattle.mr_geom.specs.Rectangle.{Rectangle, IsOrdered}
use Rattle.std.specs.Prelude.{unsigned_abs}
use Rattle.std.specs.Int.{int_max, int_min}
use Rattle.mr_geom.specs.Distance.{square, IsLeastDistance}
use Rattle.mr_geom.specs.Plane.{HoldsPoint}
use Rattle.mr_geom.proofs.Distances.{IsLeastDistance-least_squared_distance, least_squared_distance-0, least_squared_distance-parts}
use Rattle.mr_geom.proofs.rect.Rect.dist2.Goals as goal

-- a gap between equal numbers
moved : (at low high at' low' high' : ℤ) (g : ℕ) → at ≡ at' → low ≡ low' → high ≡ high' →
    g ≡ unsigned_abs (at -ℤ int_max low (int_min at high)) → g ≡ unsigned_abs (at' -ℤ int_max low' (int_min at' high'))
moved at low high at' low' high' g p q r h = cc

pub returns-clause-value : goal.returns-clause-value
returns-clause-value c =
    least_squared_distance-parts c.args.self.now c.args.p.now c.squared.result c.squared-2.result
    (c.squared.ensures.value ∙ ap square (moved
    (to_z w32 (of_z w32 c.args.p.now.x)) (to_z w32 (of_z w32 c.self.inside.x0)) (to_z w32 (of_z w32 c.self.inside.x1))
    c.args.p.now.x c.args.self.now.x0 c.args.self.now.x1 c.gap.result
    (omega (arith, ints))
    (omega (arith, ints, ap (λ (r : Rectangle). r.x0) c.self.view_is))
    (omega (arith, ints, ap (λ (r : Rectangle). r.x1) c.self.view_is))
    c.gap.ensures))
    (c.squared-2.ensures.value ∙ ap square (moved
    (to_z w32 (of_z w32 c.args.p.now.y)) (to_z w32 (of_z w32 c.self.inside.y0)) (to_z w32 (of_z w32 c.self.inside.y1))
    c.args.p.now.y c.args.self.now.y0 c.args.self.now.y1 c.gap-2.result
    (omega (arith, ints))
    (omega (arith, ints, ap (λ (r : Rectangle). r.y0) c.self.view_is))
    (omega (arith, ints, ap (λ (r : Rectangle). r.y1) c.self.view_is))
    c.gap-2.ensures))

pub returns-clause-least : goal.returns-clause-least
returns-clause-least c =
    let ordered = subst IsOrdered c.self.view_is c.self.invariant in
    subst (λ n. IsLeastDistance c.args.self.now c.args.p.now n) (sym (returns-clause-value c))
    (IsLeastDistance-least_squared_distance c.args.self.now c.args.p.now ordered)

pub returns-clause-within : goal.returns-clause-within
returns-clause-within c =
    let ordered = subst IsOrdered c.self.view_is c.self.invariant in
    subst (λ n. (n ≡ 0) ↔ HoldsPoint c.args.self.now c.args.p.now) (sym (returns-clause-value c))
    (least_squared_distance-0 c.args.self.now c.args.p.now ordered)
