-- A disk in memory as code keeps it.
use Rattle.std.specs.declared.alloc.Global.{Global}
use Rattle.std.specs.Prelude.{Vec, ℕ, Bool}
use Rattle.mr_journal.specs.declared.disk.Area.{Area}
use Rattle.mr_journal.specs.declared.mem_disk.Call.{Call}
use Rattle.mr_journal.specs.declared.mem_disk.Call.TheVariants.{Wrote}
use Rattle.mr_journal.specs.declared.mem_disk.Trace.{Trace}
use Rattle.mr_journal.specs.MemoryDisk.{AreaState}

-- an area as code keeps it
abbrev pub trace_of : Trace → AreaState
trace_of t = record { held = t.held.items; synced = t.synced.items; touched = t.touched.items }

abbrev pub write_call : Area → ℕ → Vec ℕ Global → Bool → Call
write_call area at bytes whole = Wrote
    (record { area = area; at = at; bytes = bytes; whole = whole })
