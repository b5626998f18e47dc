use Rattle.mr_journal.specs.Format.{entries}
use Rattle.mr_journal.proofs.Walking.{OnTheWay}
use Rattle.mr_journal.proofs.carrying.put_entries.Given as goal

abbrev pub invariant-loop-left : goal.invariant-loop-left
invariant-loop-left g l =
    OnTheWay (g.D.Disk.state l.fn.disk) (g.D.Disk.state l.disk) (g.D.Disk.images l.fn.disk) (g.D.Disk.images l.disk)
    l.size (entries l.size l.count l.bytes) l.left l.rest
    × g.D.Disk.kept l.fn.disk l.disk

abbrev pub decreases-loop-left : goal.decreases-loop-left
decreases-loop-left g l = l.left
