-- When a run of the program is right: what it may answer, and what it may leave.
use Rattle.std.specs.Prelude.{◌≡◌, ◌⊎◌, ⊤, ℕ, ◌≤◌, List, Option}
use Rattle.mr_outside.specs.Faults.{Rose}
use Rattle.mr_outside.specs.State.{Shelved, Sunk}
use Rattle.mr_outside.specs.Told.{OfFiles, TakesBytes, TakesFront}
use Rattle.mr_plan.specs.Lines.{shelf_fault_line}
use Rattle.mr_plan.specs.Outcome.{Outcome, LeavesWritten, MayLeave}
use Rattle.mr_plan.specs.Plan.{Plan, LacksInput, IsOutcomeOver}
use Rattle.mr_plan.specs.Say.{say}
use Rattle.mr_plan.specs.Untold.{MaySay}
use Rattle.mr_plan.specs.declared.status.Status.{Status}
use Rattle.mr_plan.specs.declared.status.Status.TheVariants.{Outside, NoMemory}
use Rattle.mr_plan.specs.declared.words.Command.{Command}
use Rattle.mr_plan.specs.declared.words.Command.TheVariants as commands

-- the shelf and the sink at one moment
pub record World : Type 0 where
  pub shelf : Shelved
  pub sink : Sunk

abbrev pub world : Shelved → Sunk → World
world shelf sink = record { shelf = shelf; sink = sink }

-- no count falls
pub record NoCountFalls (before after : World) : Type 0 where
  pub shelf_faults : before.shelf.faults ≤ after.shelf.faults
  pub reads : before.shelf.reads ≤ after.shelf.reads
  pub sink_faults : before.sink.faults ≤ after.sink.faults

abbrev pub ShelfFailed : World → World → Type 0
ShelfFailed before after = Rose before.shelf.faults after.shelf.faults

abbrev pub SinkFailed : World → World → Type 0
SinkFailed before after = Rose before.sink.faults after.sink.faults

-- neither something outside nor want of memory ended it
abbrev pub IsSettled : Status → Type 0
IsSettled status = (status ≡ Outside → ⊥) × (status ≡ NoMemory → ⊥)

-- a map is changed in its own file, beside which its journal may be absent
abbrev pub ChangesInPlace : Command → Type 0
ChangesInPlace (commands.ApplyHere map batch) = ⊤
ChangesInPlace (commands.Recover map) = ⊤
ChangesInPlace command = ⊥

-- a run that neither ended had no fault outside
abbrev pub IsQuiet : Status → World → World → Type 0
IsQuiet status before after = IsSettled status → (after.shelf.faults ≡ before.shelf.faults)
    × (after.sink.faults ≡ before.sink.faults)

-- why a run may end for something outside: the shelf or the sink failed, or an input is told to be
-- absent
abbrev pub HasOutsideCause : Plan → World → World → Type 0
HasOutsideCause plan before after = ShelfFailed before after ⊎ SinkFailed before after
    ⊎ LacksInput plan before.shelf.files

-- all that was to be done was done
pub record IsWhole (said : Outcome) (before after : World) (ended : Status) : Type 0 where
  pub status : ended ≡ said.status
  pub printed : TakesBytes before.sink after.sink said.printed
  pub files : LeavesWritten said.written before.shelf.files after.shelf.files

-- what is printed where the shelf failed
abbrev pub IsStopLine : List ℕ → Type 0
IsStopLine line = line ≡ shelf_fault_line

-- want of memory, or something outside that failed
abbrev pub HasStopped : World → World → Status → Type 0
HasStopped before after status =
    (status ≡ NoMemory) ⊎ ((status ≡ Outside)
    × (ShelfFailed before after ⊎ SinkFailed before after))

-- the run stopped: a front of what was to be printed stands there, or of the line on what failed
pub record IsStopped (said : Outcome) (before after : World) (status : Status) : Type 0 where
  pub stopped : HasStopped before after status
  pub text : List ℕ
  pub line : (text ≡ said.printed) ⊎ (ShelfFailed before after × IsStopLine text)
  pub printed : TakesFront before.sink after.sink text
  -- where the sink did not fail, the line on what failed stands there whole
  pub whole_line : status ≡ Outside → (SinkFailed before after → ⊥) → IsStopLine text
      × TakesBytes before.sink after.sink text
  -- printing comes last: where anything was printed but that line, all else was done
  pub last : (after.sink ≡ before.sink) ⊎ IsStopLine text
      ⊎ LeavesWritten said.written before.shelf.files after.shelf.files
  pub files : MayLeave said.written before.shelf.files after.shelf.files

-- The run answers an outcome that may be said of the command; over files that are told, it is the
-- one that they give.
pub record IsAnswer (hash : List ℕ → List ℕ) (command : Option Command) (before after : World)
    (status : Status) : Type 0 where
  pub said : Outcome
  pub leads : MaySay hash command before.shelf.files said
  pub told : OfFiles before.shelf.files (λ files. IsOutcomeOver (say hash command) files said)
  pub answer : IsWhole said before after status ⊎ IsStopped said before after status
