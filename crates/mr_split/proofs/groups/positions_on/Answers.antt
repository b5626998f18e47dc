use Rattle.std.proofs.Common.{false, length, get_or, ◌∙◌, sym, ap}
use Rattle.mr_split.specs.Split.{is_on}
use Rattle.mr_split.proofs.Steps.{side_on, pushed, left_out}
use Rattle.mr_split.proofs.groups.positions_on.Goals as goal
use Rattle.mr_split.proofs.groups.positions_on.Goals.{then-is_on+in_ok-push, else-is_on}

pub loop-at-preserved : goal.loop-at-preserved
loop-at-preserved c =
    side_on (λ n. is_on c.args.side (get_or c.args.sides.now n false)) c.loop-at.at (length c.args.sides.now)
    c.loop-at.group.items
    c.if-is_on.group.items _ c.is_on.result c.loop-at-test.true (sym c.is_on.ensures)
    (elim c.if-is_on.branch [
      | then-is_on+in_ok-push w ↦ pushed c.is_on.result c.loop-at.group.items c.if-is_on.group.items c.loop-at.at
          w.if-is_on.true (ap (λ v. v.items) w.group-is ∙ w.in_ok-push.ensures.items)
      | else-is_on w ↦ left_out c.is_on.result c.loop-at.group.items c.if-is_on.group.items c.loop-at.at
          w.if-is_on.false (ap (λ v. v.items) w.group-is)
    ])
    c.loop-at.invariant
