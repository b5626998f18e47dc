use Rattle.mr_batch.proofs.Replaying.{IsOnTheWay}
use Rattle.mr_batch.proofs.replay.replayed.Given as goal

abbrev pub invariant-loop-i : goal.invariant-loop-i
invariant-loop-i l = IsOnTheWay l.fn.tree l.batch.list l.i l.tree
