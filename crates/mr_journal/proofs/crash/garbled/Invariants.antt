use Rattle.std.proofs.Common.{vec_len, ◌-◌}
use Rattle.mr_journal.specs.private.Traced.{trace_of}
use Rattle.mr_journal.proofs.Picking.{GarblesSo}
use Rattle.mr_journal.proofs.crash.garbled.Given as goal

abbrev pub invariant-loop-all : goal.invariant-loop-all
invariant-loop-all l = GarblesSo (trace_of l.trace) l.all.items

abbrev pub decreases-loop-all : goal.decreases-loop-all
decreases-loop-all l = vec_len l.trace.held - vec_len l.all
