use Rattle.std.proofs.Common.{◌∙◌, ap}
use Rattle.std.specs.Ordering.{is_lt, ordering_then}
use Rattle.mr_geom.specs.Rectangle.{area}
use Rattle.mr_split.specs.Choice.{is_fitter, growth}
use Rattle.mr_split.proofs.Comparing.{compared_as}
use Rattle.mr_split.proofs.choice.is_fitter.Goals as goal

pub returns : goal.returns
unfolding is_fitter
returns c =
    c.is_lt.ensures ∙ ap is_lt c.then.ensures
    ∙ (λ i. is_lt (ordering_then
    ((c.cmp.ensures ∙ compared_as c.growth.result c.growth-2.result (growth c.args.one.now c.args.new.now)
    (growth c.args.other.now c.args.new.now) c.growth.ensures.value c.growth-2.ensures.value) i)
    ((c.cmp-2.ensures ∙ compared_as c.area.result c.area-2.result (area c.args.one.now) (area c.args.other.now)
    c.area.ensures.value c.area-2.ensures.value) i)))
