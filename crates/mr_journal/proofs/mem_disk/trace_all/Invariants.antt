use Rattle.std.proofs.Common.{◌≡◌, take}
use Rattle.mr_journal.specs.MemoryDisk.{area_after}
use Rattle.mr_journal.specs.private.Traced.{trace_of}
use Rattle.mr_journal.proofs.mem_disk.trace_all.Given as goal

abbrev pub invariant-loop-call : goal.invariant-loop-call
invariant-loop-call l = trace_of l.so_far ≡ area_after l.area l.first (take l.call-index l.calls)
