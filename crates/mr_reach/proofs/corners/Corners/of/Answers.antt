use Rattle.std.proofs.Common.{◌∙◌, ap}
use Rattle.mr_reach.specs.private.Corners.{xs_in, ys_in}
use Rattle.mr_reach.proofs.Sides.{given_count, has_axes}
use Rattle.mr_reach.proofs.corners.Corners.of.Goals as goal

pub returns : goal.returns
returns c =
    let points = c.sort.new.points.items in
    given_count c.args.points.items points c.in_ok-xs.xs.items c.in_ok-ys.ys.items c.in_ok-sort.ensures.kept
    c.in_ok-sort.ensures.order (c.in_ok-xs.ensures ∙ ap xs_in c.deref.ensures.value)
    (c.in_ok-ys.ensures ∙ ap ys_in c.deref-2.ensures.value)

pub invariant_of-result : goal.invariant_of-result
invariant_of-result c =
    has_axes c.sort.new.points.items c.in_ok-xs.xs.items c.in_ok-ys.ys.items c.in_ok-ys_of.field-0.items
    c.in_ok-heights.heights.items c.in_ok-heights.levels.items c.in_ok-sort.ensures.order
    (c.in_ok-xs.ensures ∙ ap xs_in c.deref.ensures.value) (c.in_ok-ys.ensures ∙ ap ys_in c.deref-2.ensures.value)
    (c.in_ok-ys_of.ensures ∙ ap ys_in c.deref-3.ensures.value) c.in_ok-heights.ensures
