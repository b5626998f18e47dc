use Rattle.std.proofs.Common.{◌≡◌}
use Rattle.mr_journal.specs.Format.{entries, pages_fit}
use Rattle.mr_journal.proofs.body.are_placed.Given as goal

abbrev pub invariant-loop-left : goal.invariant-loop-left
invariant-loop-left l = pages_fit l.size l.low l.reach (entries l.size l.left l.rest) ≡ pages_fit l.size 0 l.map_length
    (entries l.size l.count l.bytes)

abbrev pub decreases-loop-left : goal.decreases-loop-left
decreases-loop-left l = l.left
