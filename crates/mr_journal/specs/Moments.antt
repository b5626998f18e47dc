-- What a call of a disk, or a run of calls, adds to what a crash may leave. In all of these `past`
-- and `now` are what counts as an image of the disk since a time, before the call and after it.
use Rattle.std.specs.Prelude.{◌≡◌, ◌⊎◌, ℕ, ◌<◌, ◌≤◌, IsTrue, is_some, IsSome, IsSomeAnd, Some, Result, IsErrOf, OnOk}
use Rattle.mr_outside.specs.Faults.{Rose}
use Rattle.mr_journal.specs.Images.{Image, DiskState, part}
use Rattle.mr_journal.specs.declared.disk.Area.{Area}
use Rattle.mr_journal.specs.declared.disk.DiskErr.{DiskErr}
use Rattle.mr_journal.specs.declared.disk.DiskErr.TheVariants.{Fault, NoMemory}

-- what a crash at a moment since a time may have left
abbrev pub ImagesSince : Type 1
ImagesSince = ℕ → Image → Type 0

-- each image of this moment has P
abbrev pub EveryImage : DiskState → ImagesSince → (Image → Type 0) → Type 0
EveryImage at now P = (c : Image) → now at.clock c → P c

-- an image of the moment before, after a step
abbrev pub IsAfterStep : DiskState → ImagesSince → (Image → Image → Type 0) → Image → Type 0
IsAfterStep before past step c = (d : Image) × past before.clock d × step d c

-- Time goes on, and each image that is added has P.
pub record AddsOnly (before after : DiskState) (past now : ImagesSince) (P : Image → Type 0)
    : Type 0 where
  pub later : before.clock ≤ after.clock
  -- what is told never changes
  pub tells_images : after.tells_images ≡ before.tells_images
  pub told : is_some after.contents ≡ is_some before.contents
  pub added : (t : ℕ) (c : Image) → t ≤ before.clock → now t c → past t c ⊎ P c

-- Each image that is added is one of the moment before, after a step.
abbrev pub AddsSteps : DiskState → DiskState → ImagesSince → ImagesSince → (Image → Image → Type 0)
    → Type 0
AddsSteps before after past now step = AddsOnly before after past now (IsAfterStep before past step)

-- Where it is told what a crash may leave: the clock rises unless there was no memory, and what was
-- an image since a time stays one.
pub record TakesTime {A : Type 0} (before after : DiskState) (past now : ImagesSince)
    (result : Result A DiskErr) : Type 0 where
  pub rises : IsTrue before.tells_images → (IsErrOf result NoMemory → ⊥)
      → before.clock < after.clock
  pub keeps : IsTrue before.tells_images → (t : ℕ) (c : Image) → t ≤ before.clock → past t c
      → now t c

-- Each image of the moment before is one of the moment after: nothing was synced.
abbrev pub KeepsImages : DiskState → DiskState → ImagesSince → ImagesSince → Type 0
KeepsImages before after past now = (c : Image) → past before.clock c → now after.clock c

-- in this area each image of this moment is the contents
abbrev pub IsDurable : Area → DiskState → ImagesSince → Type 0
IsDurable area at now = EveryImage at now
    (λ c. IsSomeAnd at.contents (λ k. part area c ≡ part area k))

-- the contents are the only image
abbrev pub IsOnlyImage : DiskState → ImagesSince → Type 0
IsOnlyImage at now = EveryImage at now (λ c. at.contents ≡ Some c)

-- Where each image at the start has P: each that is added has Q, and after Ok each has R.
pub record LeadsThrough {A : Type 0} (before after : DiskState) (past now : ImagesSince)
    (result : Result A DiskErr) (P Q R : Image → Type 0) : Type 0 where
  pub meanwhile : EveryImage before past P → AddsOnly before after past now Q
  pub done : EveryImage before past P → OnOk result (EveryImage after now R)

-- Fault comes only where the count of faults rose, and it never falls. Where the contents are told,
-- which never changes, a call that is answered counts no fault.
pub record DiskCauses {A : Type 0} (before after : DiskState) (result : Result A DiskErr)
    : Type 0 where
  pub fault : IsErrOf result Fault → Rose before.faults after.faults
  pub faults : before.faults ≤ after.faults
  pub told : is_some after.contents ≡ is_some before.contents
  pub quiet : IsSome before.contents → OnOk result (after.faults ≡ before.faults)

-- One call of a disk: what it adds to what a crash may leave, its time, and why it may be refused.
pub record IsDiskCall {A : Type 0} (before after : DiskState) (past now : ImagesSince)
    (result : Result A DiskErr) (step : Image → Image → Type 0) : Type 0 where
  pub moves : AddsSteps before after past now step
  pub ticks : TakesTime before after past now result
  pub causes : DiskCauses before after result
