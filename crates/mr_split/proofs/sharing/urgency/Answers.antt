use Rattle.std.proofs.Common.{◌∙◌, sym}
use Rattle.mr_split.specs.Split.{is, preference}
use Rattle.mr_split.specs.declared.mark.Mark.TheVariants.{Open}
use Rattle.mr_split.proofs.Steps.{urgent, prefers}
use Rattle.mr_split.proofs.sharing.urgency.Goals as goal

pub returns-then-is : goal.returns-then-is
returns-then-is c =
    urgent (is Open c.args.mark) c.abs_diff.result (preference c.args.first.now c.args.second.now c.args.rect.now)
    (sym c.is.ensures ∙ c.if-is.true)
    (prefers c.args.first.now c.args.second.now c.args.rect.now c.growth.result c.growth-then-is.result
    c.abs_diff.result c.growth.ensures.value c.growth-then-is.ensures.value c.abs_diff.ensures)
