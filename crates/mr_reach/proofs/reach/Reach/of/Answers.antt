use Rattle.std.proofs.Common.{List, subst, sym}
use Rattle.mr_geom.specs.Rectangle.{Rectangle}
use Rattle.mr_reach.specs.private.Meeting.{HasCorners}
use Rattle.mr_reach.proofs.reach.Reach.of.Goals as goal

pub invariant_of-result : goal.invariant_of-result
invariant_of-result c =
    subst (λ (rs : List Rectangle). HasCorners rs c.in_ok-corners_of.field-0 c.in_ok-corners_of-2.field-0
    c.in_ok-corners_of-3.field-0 c.in_ok-corners_of-4.field-0) (sym c.in_ok-from_slice.ensures.items)
    (record {
      ordered = c.in_ok-corners_of.ensures.ordered;
      low_left = c.in_ok-corners_of.ensures.are;
      high_left = c.in_ok-corners_of-2.ensures.are;
      low_right = c.in_ok-corners_of-3.ensures.are;
      high_right = c.in_ok-corners_of-4.ensures.are;
    })
