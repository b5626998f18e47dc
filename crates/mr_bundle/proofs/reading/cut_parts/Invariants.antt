use Rattle.mr_bundle.proofs.Cutting.{IsRead}
use Rattle.mr_bundle.proofs.reading.cut_parts.Given as goal

abbrev pub invariant-loop-left : goal.invariant-loop-left
invariant-loop-left l = IsRead l.bytes l.queries l.list.items l.left l.at

abbrev pub decreases-loop-left : goal.decreases-loop-left
decreases-loop-left l = l.left
