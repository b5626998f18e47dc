-- What `recover` comes to where its file is there. This serves private functions.
use Rattle.std.specs.Prelude.{◌≡◌, ℕ, Bool, List, Option, Some, None, IsSome, Result, Ok, Err}
use Rattle.mr_outside.specs.Files.{Files}
use Rattle.mr_outside.specs.State.{Shelved}
use Rattle.mr_journal.specs.Format.{is_open}
use Rattle.mr_journal.specs.Shelves.{image_on}
use Rattle.mr_journal.specs.declared.disk.DiskErr.{DiskErr}
use Rattle.mr_journal.specs.declared.disk.DiskErr.TheVariants as disks
use Rattle.mr_plan.specs.Lines.{recovered_line}
use Rattle.mr_plan.specs.Outcome.{InPlace, LeavesWritten, MayLeave, Written}
use Rattle.mr_plan.specs.Saying.{journal_of, prints}
use Rattle.mr_plan.specs.declared.status.Status.{Status}
use Rattle.mr_plan.specs.declared.status.Status.TheVariants.{Done}
use Rattle.mr_command.specs.Ending.{IsCalm, IsEndingOrHalt, NoneFalls, StopsCommand, printed_of}
use Rattle.mr_command.specs.declared.ending.Ending.{Ending}
use Rattle.mr_command.specs.declared.ending.Halt.{Halt}
use Rattle.mr_command.specs.declared.ending.Halt.TheVariants as halts

-- the halt over a refusal of the disk
abbrev pub halt_of_disk : DiskErr → Halt
halt_of_disk disks.Fault = halts.Shelf
halt_of_disk disks.NoMemory = halts.NoMemory

-- whether the journal was open, or why that is not known
abbrev pub SaysRecovered : Result Bool DiskErr → Result Ending Halt → Type 0
SaysRecovered (Ok was) result = IsEndingOrHalt (prints (recovered_line was)) result
SaysRecovered (Err e) result = result ≡ Err (halt_of_disk e)

-- a map in its own file that is recovered, and nothing else
abbrev pub mends : (map : List ℕ) → Files → Written
mends map files = InPlace map (journal_of map) (image_on map (journal_of map) files) None

-- it was recovered: over files that are told this is said of their journal
abbrev pub HasRecovered : (map : List ℕ) → Option Files → Option Files → Status → List ℕ → Type 0
HasRecovered map None after status text =
    (was : Bool) × (status ≡ Done) × (text ≡ recovered_line was) × (after ≡ None)
HasRecovered map (Some files) after status text = (status ≡ Done)
    × (text ≡ recovered_line (is_open (image_on map (journal_of map) files)))
    × LeavesWritten (mends map files) (Some files) after

-- recovery stopped
abbrev pub MayHaveRecovered : (map : List ℕ) → Option Files → Option Files → Type 0
MayHaveRecovered map None after = after ≡ None
MayHaveRecovered map (Some files) after = MayLeave (mends map files) (Some files) after

abbrev pub CameBehind : (map : List ℕ) → Shelved → Shelved → Result Ending Halt → Type 0
CameBehind map before after (Ok ending) =
    HasRecovered map before.files after.files ending.status (printed_of ending)
CameBehind map before after (Err halt) = StopsCommand before after halt
    × MayHaveRecovered map before.files after.files

-- what the command comes to where the file is there
pub record RecoversFile (map : List ℕ) (before after : Shelved) (result : Result Ending Halt)
    : Type 0 where
  pub counts : NoneFalls before after
  pub quiet : IsSome before.files → IsCalm before after result
  pub came : CameBehind map before after result
