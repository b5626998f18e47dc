-- Why a call of a shelf or of a sink may refuse, and what its counts say afterwards.
use Rattle.std.specs.Prelude.{◌≡◌, ℕ, ◌≤◌, List, IsSome, Result, IsErrOf, OnOk, OnErr}
use Rattle.mr_outside.specs.Faults.{Rose, next_count}
use Rattle.mr_outside.specs.State.{Shelved, Sunk}
use Rattle.mr_outside.specs.Told.{MayMiss}
use Rattle.mr_outside.specs.declared.shelf.ShelfErr.{ShelfErr}
use Rattle.mr_outside.specs.declared.shelf.ShelfErr.TheVariants as shelf
use Rattle.mr_outside.specs.declared.sink.SinkErr.{SinkErr}
use Rattle.mr_outside.specs.declared.sink.SinkErr.TheVariants as sink

-- A call of a shelf on this name: each refusal has its cause. A call that is answered counts no
-- fault, nor does one on a file that is not there, where files are told.
pub record ShelfCauses {A : Type 0} (name : List ℕ) (before after : Shelved)
    (result : Result A ShelfErr) : Type 0 where
  pub missing : IsErrOf result shelf.Missing → MayMiss before.files name before.faults after.faults
  pub fault : IsErrOf result shelf.Fault → Rose before.faults after.faults
  pub faults : before.faults ≤ after.faults
  pub quiet : OnOk result (after.faults ≡ before.faults)
  pub absent : IsErrOf result shelf.Missing → IsSome before.files → after.faults ≡ before.faults

-- one read is counted, just where it is answered
pub record CountsRead {A : Type 0} (before after : Shelved) (result : Result A ShelfErr)
    : Type 0 where
  pub answered : OnOk result (after.reads ≡ next_count before.reads)
  pub refused : OnErr result (after.reads ≡ before.reads)

-- A call of a sink: each refusal has its cause, and a call that is answered counts no fault.
pub record SinkCauses {A : Type 0} (before after : Sunk) (result : Result A SinkErr) : Type 0 where
  pub fault : IsErrOf result sink.Fault → Rose before.faults after.faults
  pub faults : before.faults ≤ after.faults
  pub quiet : OnOk result (after.faults ≡ before.faults)
