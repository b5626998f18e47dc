use Rattle.std.proofs.Common.{◌≡◌, List, ap, ◌∙◌, arith, false, true, w32, FitsSigned}
use Rattle.std.specs.List.{list_any}
use Rattle.std.proofs.lemmas.Int.{ints}
use Rattle.mr_geom.specs.Rectangle.{Rectangle}
use Rattle.mr_geom.specs.Plane.{touches}
use Rattle.mr_reach.proofs.Crossing.{meets_is, few_corners}
use Rattle.mr_reach.proofs.reach.Reach.meets.Goals as goal

pub overflow_add-begun : goal.overflow_add-begun
overflow_add-begun c =
    let list = c.self.inside.list.items in
    let first = few_corners false false list c.self.inside.lower_left _ _ c.count.result c.self.invariant.low_left
    c.count.ensures in
    let second = few_corners true true list c.self.inside.upper_right _ _ c.count-2.result c.self.invariant.high_right
    c.count-2.ensures in
    let small = c.self.inside.list.small in
    omega arith

pub overflow_add-ended : goal.overflow_add-ended
overflow_add-ended c =
    let list = c.self.inside.list.items in
    let first = few_corners false true list c.self.inside.upper_left _ _ c.count-3.result c.self.invariant.high_left
    c.count-3.ensures in
    let second = few_corners true false list c.self.inside.lower_right _ _ c.count-4.result c.self.invariant.low_right
    c.count-4.ensures in
    let small = c.self.inside.list.small in
    omega arith

pub returns : goal.returns
returns c =
    let q = c.args.rect.now in
    let value = c.corners-x0.ensures.value in
    let fits = c.corners-x0.ensures.fits in
    let x0 : c.corners-x0.result.0 ≡ q.x0 = λ i. (value i).0 in
    let y0 : c.corners-x0.result.1 ≡ q.y0 = λ i. (value i).1 in
    let x1 : c.corners-x0.result.2 ≡ q.x1 = λ i. (value i).2 in
    let y1 : c.corners-x0.result.3 ≡ q.y1 = λ i. (value i).3 in
    let x0_fits : FitsSigned w32 q.x0 = fits.x0 in
    let y0_fits : FitsSigned w32 q.y0 = fits.y0 in
    let x1_fits : FitsSigned w32 q.x1 = fits.x1 in
    let y1_fits : FitsSigned w32 q.y1 = fits.y1 in
    meets_is q c.self.inside.list.items c.self.inside.lower_left c.self.inside.upper_left c.self.inside.lower_right
    c.self.inside.upper_right _ _ _ _ c.count.result c.count-2.result c.count-3.result c.count-4.result
    c.self.invariant c.corners-x0.ensures.ordered (omega (arith, ints, c.from-right.ensures))
    (omega (arith, ints, c.from-above.ensures)) (omega (arith, ints, c.from.ensures))
    (omega (arith, ints, c.from-2.ensures)) c.count.ensures c.count-2.ensures c.count-3.ensures c.count-4.ensures
    ∙ ap (λ (rs : List Rectangle). list_any (λ (w : Rectangle). touches q w) rs) c.self.view_is
