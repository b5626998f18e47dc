use Rattle.std.proofs.Common.{◌-◌, length, map, ◌∙◌, ap}
use Rattle.std.proofs.lemmas.Result.{IfOk-weaker}
use Rattle.mr_split.specs.Split.{is, sides, shared}
use Rattle.mr_split.specs.declared.mark.Mark.TheVariants.{Second}
use Rattle.mr_split.proofs.groups.sides.Goals as goal

pub returns-clause-exact : goal.returns-clause-exact
unfolding sides
returns-clause-exact c =
    IfOk-weaker c.are_second.result _ _
    (λ v h. h ∙ ap (map (is Second)) (c.share.ensures ∙ ap (shared (length c.args.list.now - 2) c.args.least
    c.args.list.now) (c.as_mut_slice-marks.ensures.value ∙ c.in_ok-seeded.ensures)))
    c.are_second.ensures
