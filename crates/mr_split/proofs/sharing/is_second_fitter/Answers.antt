use Rattle.std.proofs.Common.{◌∙◌, ap}
use Rattle.std.specs.Ordering.{is_lt, ordering_then}
use Rattle.mr_split.specs.Split.{is_second_fitter, growth_of, area_of}
use Rattle.mr_split.proofs.Comparing.{compared_as}
use Rattle.mr_split.proofs.sharing.is_second_fitter.Goals as goal

pub returns : goal.returns
unfolding is_second_fitter
returns c =
    c.is_lt.ensures ∙ ap is_lt (c.then-2.ensures ∙ ap (λ o. ordering_then o c.cmp-3.result) c.then.ensures)
    ∙ (λ i. is_lt (ordering_then (ordering_then
    ((c.cmp.ensures ∙ compared_as c.growth.result c.growth-2.result (growth_of c.args.second.now c.args.rect.now)
    (growth_of c.args.first.now c.args.rect.now) c.growth.ensures.value c.growth-2.ensures.value) i)
    ((c.cmp-2.ensures ∙ compared_as c.area_of.result c.area_of-2.result (area_of c.args.second.now)
    (area_of c.args.first.now) c.area_of.ensures c.area_of-2.ensures) i))
    (c.cmp-3.ensures i)))
