use Rattle.std.proofs.Common.{◌≡◌, ◌+◌, take, drop}
use Rattle.mr_batch.specs.private.Presence.{after_all, first_hindered, knows}
use Rattle.mr_batch.proofs.admission.check_changes.Given as goal

abbrev pub invariant-loop-i : goal.invariant-loop-i
invariant-loop-i l =
    first_hindered (after_all (knows l.dir) (take l.i l.batch.list)) l.count (l.i + 2) (drop l.i l.batch.list)
    ≡ first_hindered
    (knows l.dir) l.fn.count 2 l.batch.list
