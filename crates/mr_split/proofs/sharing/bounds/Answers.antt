use Rattle.std.proofs.Common.{length, ap, ◌∙◌}
use Rattle.mr_geom.specs.Rectangle.{join}
use Rattle.mr_split.proofs.Steps.{from_start, member_on}
use Rattle.mr_split.proofs.sharing.bounds.Goals as goal

pub loop-at-init : goal.loop-at-init
loop-at-init c = from_start c.args.list.now c.args.marks.now c.args.group

pub loop-at-preserved : goal.loop-at-preserved
loop-at-preserved c =
    member_on c.args.list.now c.args.marks.now c.args.group c.loop-at.at (length c.args.list.now) c.loop-at.all
    c.joined-all.result _ c.loop-at-test.true
    (c.joined-all.ensures ∙ ap (join c.loop-at.all) c.member.ensures) c.loop-at.invariant
