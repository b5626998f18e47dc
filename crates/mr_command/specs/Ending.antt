-- What a command comes to before it is printed: `RunsPlan`, `IsCarriedOut` and `IsEndingOrHalt`,
-- with what they are made of; and `halt_of`.
use Rattle.std.specs.Prelude.{◌≡◌, ◌⊎◌, ℕ, ◌^◌, ◌<◌, ◌≤◌, List, ◌++◌, Option, Some, None, IsSome, IfSome, ⊤, Result, Ok, Err}
use Rattle.mr_outside.specs.Files.{Files}
use Rattle.mr_outside.specs.Faults.{Rose}
use Rattle.mr_outside.specs.State.{Shelved}
use Rattle.mr_outside.specs.Told.{OfFiles}
use Rattle.mr_outside.specs.declared.shelf.ShelfErr.{ShelfErr}
use Rattle.mr_outside.specs.declared.shelf.ShelfErr.TheVariants as shelf
use Rattle.mr_outside.specs.Bytes.{AreBytes}
use Rattle.mr_record.specs.RecordText.{text_of}
use Rattle.mr_record.specs.declared.record.Record.{Record}
use Rattle.mr_record.specs.declared.version.Version.{Version}
use Rattle.mr_query.specs.Scan.{by_number}
use Rattle.mr_tree.specs.Tree.{records}
use Rattle.mr_pages.specs.PageBytes.{form_by}
use Rattle.mr_pages.specs.Law.{AgreesWithFault}
use Rattle.mr_command.specs.Answer.{IsSettled}
use Rattle.mr_tree.specs.WellFormed.{WellFormed}
use Rattle.mr_plan.specs.Found.{Found, ShowsMap}
use Rattle.mr_plan.specs.Outcome.{Outcome, LeavesWritten, MayLeave}
use Rattle.mr_command.specs.Counting.{AllowsReads, MayRead, ReadsWithinPlan}
use Rattle.mr_plan.specs.Plan.{Plan, comes, reads, opens, seeks, Input, IsInput, IsSought, LacksInput}
use Rattle.mr_plan.specs.Say.{say}
use Rattle.mr_plan.specs.Untold.{MaySayUntold}
use Rattle.mr_command.specs.declared.ending.Ending.{Ending}
use Rattle.mr_command.specs.declared.ending.RecordsOut.{RecordsOut}
use Rattle.mr_command.specs.declared.ending.RecordsOut.TheVariants as shown
use Rattle.mr_command.specs.declared.ending.Halt.{Halt}
use Rattle.mr_command.specs.declared.ending.Halt.TheVariants as halts
use Rattle.mr_pages.specs.declared.opening.Opened.{Opened}
use Rattle.mr_plan.specs.declared.status.Status.{Status}
use Rattle.mr_plan.specs.declared.status.Status.TheVariants.{Outside}
use Rattle.mr_plan.specs.declared.words.Command.{Command}
use Rattle.mr_plan.specs.declared.words.Command.TheVariants as commands

-- the records that are printed: these, or those of a tree in rising number
abbrev pub records_out : RecordsOut → List Record
records_out (shown.Records list) = list.items
records_out (shown.OfTree alloc tree) = by_number (records tree)

-- what is printed of an ending: its text, then a line for each record
abbrev pub printed_of : Ending → List ℕ
printed_of ending = ending.text.items ++ text_of ending.version (records_out ending.records)

-- the ending is what is said, for a reason that is not outside
pub record IsEndingOf (said : Outcome) (ending : Ending) : Type 0 where
  pub status : ending.status ≡ said.status
  pub printed : printed_of ending ≡ said.printed
  pub settled : IsSettled ending.status

-- this is said, or memory ran out
abbrev pub IsEndingOrHalt : Outcome → Result Ending Halt → Type 0
IsEndingOrHalt said (Ok ending) = IsEndingOf said ending
IsEndingOrHalt said (Err halt) = halt ≡ halts.NoMemory

-- ---- before it is printed

-- no count of the shelf falls
pub record NoneFalls (before after : Shelved) : Type 0 where
  pub faults : before.faults ≤ after.faults
  pub reads : before.reads ≤ after.reads

-- a map that the bytes stand for is what is found
abbrev pub FindsMap : Version → (List ℕ → List ℕ) → List ℕ → Found → Type 0
FindsMap v hash bytes found = (map : Opened) → ShowsMap v hash bytes (Ok map) → found ≡ Ok map

-- a map is of a well-formed tree at a batch of 64 bits
abbrev pub IsWell : Found → Type 0
IsWell (Ok map) = WellFormed map.tree × (map.batch < 2 ^ 64)
IsWell (Err fault) = ⊤

-- this was found in the bytes of a file, which were read in this version
abbrev pub WasFound : Option Files → Version → (List ℕ → List ℕ) → List ℕ → Found → Type 0
WasFound told v hash bytes found = ShowsMap v hash bytes found
    × OfFiles told (λ files. FindsMap v hash bytes found)

-- the plan comes to this status and text, and the files are left as its outcome says
abbrev pub EndsPlan : Plan → Option Files → Option Files → Status → List ℕ → Type 0
EndsPlan (comes said) before after status text = (status ≡ said.status) × (text ≡ said.printed)
    × LeavesWritten said.written before after
EndsPlan (reads name next) before after status text = (input : Input) × IsInput before name input
    × IfSome input AreBytes × EndsPlan (next input) before after status text
EndsPlan (opens v hash bytes next) before after status text = (found : Found)
    × WasFound before v hash bytes found × IsWell found × EndsPlan (next found) before after
    status text
EndsPlan (seeks name next) before after status text = (bytes : List ℕ) × IsSought before name bytes
    × EndsPlan (next bytes) before after status text

-- the plan was given up, and the files are left as its outcome allows
abbrev pub GivesUpPlan : Plan → Option Files → Option Files → Type 0
GivesUpPlan (comes said) before after = MayLeave said.written before after
GivesUpPlan (reads name next) before after = (after ≡ before)
    ⊎ ((input : Input) × IsInput before name input × GivesUpPlan (next input) before after)
GivesUpPlan (opens v hash bytes next) before after = (found : Found) × ShowsMap v hash bytes found
    × GivesUpPlan (next found) before after
GivesUpPlan (seeks name next) before after = (after ≡ before)
    ⊎ ((bytes : List ℕ) × IsSought before name bytes × GivesUpPlan (next bytes) before after)

-- the bytes that the plan opens stand for one map or have one fault, whichever
abbrev pub AreJudged : Plan → Option Files → Type 0
AreJudged (comes said) told = ⊤
AreJudged (reads name next) told =
    (input : Input) → IsInput told name input → AreJudged (next input) told
AreJudged (opens v hash bytes next) told = AgreesWithFault (form_by v) hash bytes
    × ((found : Found) → ShowsMap v hash bytes found → AreJudged (next found) told)
AreJudged (seeks name next) told =
    (bytes : List ℕ) → IsSought told name bytes → AreJudged (next bytes) told

-- why a command is not carried out to its end
abbrev pub StopsCommand : Shelved → Shelved → Halt → Type 0
StopsCommand before after halts.Words = ⊥
StopsCommand before after halts.Shelf = Rose before.faults after.faults
StopsCommand before after halts.NoMemory = ⊤

abbrev pub Came : Plan → Shelved → Shelved → Result Ending Halt → Type 0
Came plan before after (Ok ending) = EndsPlan plan before.files after.files ending.status
    (printed_of ending)
Came plan before after (Err halt) = StopsCommand before after halt × GivesUpPlan plan before.files
    after.files

-- why an ending may say that something outside failed
abbrev pub BlamesOutside : Plan → Shelved → Shelved → Result Ending Halt → Type 0
BlamesOutside plan before after (Ok ending) = ending.status ≡ Outside → Rose before.faults
    after.faults
    ⊎ LacksInput plan before.files
BlamesOutside plan before after (Err halt) = ⊤

-- where it does not, nothing failed
abbrev pub IsCalm : Shelved → Shelved → Result Ending Halt → Type 0
IsCalm before after (Ok ending) = IsSettled ending.status → after.faults ≡ before.faults
IsCalm before after (Err halt) = ⊤

-- a command comes to what its plan says, over any files
pub record RunsPlan (plan : Plan) (before after : Shelved) (result : Result Ending Halt) : Type
    0 where
  pub counts : NoneFalls before after
  pub judged : AreJudged plan before.files
  pub came : Came plan before after result
  pub outside : BlamesOutside plan before after result
  pub quiet : IsCalm before after result
  pub few : ReadsWithinPlan (AllowsReads plan) before after

-- the plan comes to this over files that are told, and over others this may be said
abbrev pub EndsAsSaid : Plan → (Outcome → Type 0) → Option Files → Option Files → Status → List ℕ
    → Type 0
EndsAsSaid plan may None after status text = (said : Outcome) × may said
    × (status ≡ said.status) × (text ≡ said.printed) × LeavesWritten said.written None after
EndsAsSaid plan may (Some files) after status text = EndsPlan plan (Some files) after status text

-- the plan was given up over files that are told; over others something may be said
abbrev pub GivesUpAsSaid : Plan → (Outcome → Type 0) → Option Files → Option Files → Type 0
GivesUpAsSaid plan may None after = (after ≡ None) × ((said : Outcome) × may said)
GivesUpAsSaid plan may (Some files) after = GivesUpPlan plan (Some files) after

abbrev pub CameAsSaid : Plan → (Outcome → Type 0) → Shelved → Shelved → Result Ending Halt → Type 0
CameAsSaid plan may before after (Ok ending) = EndsAsSaid plan may before.files after.files
    ending.status (printed_of ending)
CameAsSaid plan may before after (Err halt) = StopsCommand before after halt
    × GivesUpAsSaid plan may before.files after.files

-- a command comes to what its plan says over files that are told, and over others to what may be
-- said; so many reads are allowed
pub record ComesAsSaid (plan : Plan) (may : Outcome → Type 0) (allows : Files → ℕ → Type 0)
    (before after : Shelved) (result : Result Ending Halt) : Type 0 where
  pub counts : NoneFalls before after
  pub judged : OfFiles before.files (λ files. AreJudged plan (Some files))
  pub came : CameAsSaid plan may before after result
  pub outside : BlamesOutside plan before after result
  pub quiet : IsCalm before after result
  pub few : ReadsWithinPlan allows before after

-- The same of a command that asks for a file which may be absent: over files that are not told a
-- shelf may count that as a fault.
pub record ComesLoudly (plan : Plan) (may : Outcome → Type 0) (allows : Files → ℕ → Type 0)
    (before after : Shelved) (result : Result Ending Halt) : Type 0 where
  pub counts : NoneFalls before after
  pub judged : OfFiles before.files (λ files. AreJudged plan (Some files))
  pub came : CameAsSaid plan may before after result
  pub outside : BlamesOutside plan before after result
  pub quiet : IsSome before.files → IsCalm before after result
  pub few : ReadsWithinPlan allows before after

-- a command comes to what is said of it
abbrev pub IsCarriedOut : (List ℕ → List ℕ) → Command → Shelved → Shelved → Result Ending Halt
    → Type 0
IsCarriedOut hash (commands.ApplyHere map batch) before after result =
    ComesLoudly (say hash (Some (commands.ApplyHere map batch)))
    (MaySayUntold hash (Some (commands.ApplyHere map batch)))
    (MayRead hash (Some (commands.ApplyHere map batch))) before after result
IsCarriedOut hash (commands.Recover map) before after result =
    ComesLoudly (say hash (Some (commands.Recover map)))
    (MaySayUntold hash (Some (commands.Recover map)))
    (MayRead hash (Some (commands.Recover map))) before after result
IsCarriedOut hash command before after result = ComesAsSaid (say hash (Some command))
    (MaySayUntold hash (Some command)) (MayRead hash (Some command)) before after result

-- the halt over a refusal of the shelf
abbrev pub halt_of : ShelfErr → Halt
halt_of shelf.Missing = halts.Shelf
halt_of shelf.Fault = halts.Shelf
halt_of shelf.NoMemory = halts.NoMemory
