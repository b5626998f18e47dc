-- What the steps of a command come to, and how that is printed. This serves private functions.
use Rattle.std.specs.Prelude.{◌≡◌, ◌⊎◌, ℕ, ◌+◌, ◌^◌, ◌<◌, ◌≤◌, List, All, Option, Some, None, IfSome, IsErrAnd, ⊤, Result, Ok, Err}
use Rattle.std.specs.Global.{Vec}
use Rattle.mr_outside.specs.Files.{Files, file}
use Rattle.mr_outside.specs.Faults.{Rose}
use Rattle.mr_outside.specs.State.{Shelved, Sunk}
use Rattle.mr_outside.specs.Told.{OfFiles, OfFile, TakesBytes, TakesFront}
use Rattle.mr_outside.specs.declared.shelf.ShelfErr.{ShelfErr}
use Rattle.mr_outside.specs.declared.shelf.ShelfErr.TheVariants as shelf
use Rattle.mr_outside.specs.Bytes.{AreBytes}
use Rattle.mr_record.specs.Record.{HasLayer}
use Rattle.mr_record.specs.declared.version.Version.{Version}
use Rattle.mr_tree.specs.Digest.{Scheme, by}
use Rattle.mr_pages.specs.File.{form_at, version_of}
use Rattle.mr_pages.specs.Opening.{pages_in, of_nodes}
use Rattle.mr_pages.specs.Law.{AgreesWithFault, map_in}
use Rattle.mr_command.specs.Answer.{IsSettled}
use Rattle.mr_command.specs.Shown.{kept_in}
use Rattle.mr_tree.specs.WellFormed.{WellFormed, HasLayers}
use Rattle.mr_pages.specs.declared.error.MapErr.{MapErr}
use Rattle.mr_pages.specs.declared.error.MapErr.TheVariants as errors
use Rattle.mr_tree.specs.declared.nodes.NodesErr.{NodesErr}
use Rattle.mr_tree.specs.declared.tree.Tree.{Tree}
use Rattle.mr_tree.specs.Nodes.{MapModel}
use Rattle.mr_clash.specs.declared.finding.Finding.{Finding}
use Rattle.mr_clash.specs.declared.finding.Finding.TheVariants as findings
use Rattle.mr_store.specs.Kept.{room}
use Rattle.mr_plan.specs.Found.{bad_map_line}
use Rattle.mr_plan.specs.Lines.{bad_words_line, shelf_fault_line}
use Rattle.mr_plan.specs.Outcome.{Outcome, Content, File, LeavesWritten, MayLeave}
use Rattle.mr_command.specs.Counting.{pieces_of, Opens, opened_beside}
use Rattle.mr_plan.specs.Plan.{Plan, comes, Input, IsInput, IsAbsent}
use Rattle.mr_plan.specs.Say.{ends, needs_map, says_missing, say_written}
use Rattle.mr_command.specs.declared.ending.Ending.{Ending}
use Rattle.mr_command.specs.declared.ending.RecordsOut.{RecordsOut}
use Rattle.mr_command.specs.declared.ending.Halt.{Halt}
use Rattle.mr_command.specs.declared.ending.Halt.TheVariants as halts
use Rattle.mr_pages.specs.declared.opening.Opened.{Opened}
use Rattle.mr_plan.specs.declared.status.Status.{Status}
use Rattle.mr_bundle.specs.declared.text.Text.{Text}
use Rattle.mr_plan.specs.declared.status.Status.TheVariants.{BadWords, BadMap, Outside, NoMemory}
use Rattle.mr_command.specs.Ending.{printed_of, IsEndingOrHalt, NoneFalls, WasFound, AreJudged, StopsCommand, RunsPlan}

-- the layers of all are those of the version in whose lines they are printed
abbrev pub HasLines : Version → RecordsOut → Type 0
HasLines v s = All (HasLayer v) (kept_in s)

-- the layers of an answer that is sound are those of the version in whose lines it is printed
abbrev pub HasAnswerLines : Version → Finding → Type 0
HasAnswerLines v (findings.Refused fault) = ⊤
HasAnswerLines v (findings.Sound answer) = All (HasLayer v) answer
HasAnswerLines v (findings.Collision owned shown) = ⊤

-- the line on a missing file, or memory ran out
abbrev pub SaysMissing : List ℕ → Result Ending Halt → Type 0
SaysMissing name (Ok ending) = (ending.status ≡ Outside)
    × (printed_of ending ≡ (says_missing name).printed)
SaysMissing name (Err halt) = halt ≡ halts.NoMemory

-- what is said where a map was not opened, by its refusal
abbrev pub SaysRefusal : List ℕ → MapErr → Result Ending Halt → Type 0
SaysRefusal name (errors.Map fault) result =
    IsEndingOrHalt (ends BadMap (bad_map_line fault)) result
SaysRefusal name errors.Missing result = SaysMissing name result
SaysRefusal name errors.Fault result = result ≡ Err halts.Shelf
SaysRefusal name errors.NoMemory result = result ≡ Err halts.NoMemory

-- what the command comes to where a file was not read: the line on a missing one, or why it stops
abbrev pub IsUnread : List ℕ → Shelved → Shelved → Result Ending Halt → Type 0
IsUnread name before after (Ok ending) = IsInput before.files name None
    × (Rose before.faults after.faults ⊎ IsAbsent before.files name)
    × (ending.status ≡ Outside) × (printed_of ending ≡ (says_missing name).printed)
IsUnread name before after (Err halt) = StopsCommand before after halt

abbrev pub Read : List ℕ → Shelved → Shelved → Result (Vec ℕ) (Result Ending Halt) → Type 0
Read name before after (Ok bytes) = IsInput before.files name (Some bytes.items)
    × AreBytes bytes.items × (after.faults ≡ before.faults)
Read name before after (Err came) = IsUnread name before after came

-- the same shelf with this count of reads
abbrev pub with_reads : ℕ → Shelved → Shelved
with_reads n s = record { files = s.files; faults = s.faults; reads = n }

-- a command comes to what is said, but for what it reads, which is counted apart
abbrev pub ComesBut : Plan → Shelved → Shelved → Result Ending Halt → Type 0
ComesBut plan before after result = RunsPlan plan (with_reads after.reads before) after result

-- over files that are not told, what is said may be said, each failure has its cause, and what is
-- settled counts no fault
abbrev pub SaysUntold : (Outcome → Type 0) → Shelved → Shelved → Result Ending Halt → Type 0
SaysUntold may before after (Ok ending) = (said : Outcome) × may said
    × (ending.status ≡ said.status) × (printed_of ending ≡ said.printed)
    × LeavesWritten said.written before.files after.files
    × (ending.status ≡ Outside → Rose before.faults after.faults)
    × (IsSettled ending.status → after.faults ≡ before.faults)
SaysUntold may before after (Err halt) = StopsCommand before after halt
    × (after.files ≡ before.files)

-- what is made of a proof, or of why a node of the map was not fetched
abbrev pub KeepsProof : (map name : List ℕ) → Result Text NodesErr → Shelved → Shelved
    → Result Ending Halt → Type 0
KeepsProof map name (Ok text) before after result =
    RunsPlan (comes (say_written name text.bytes.items)) before after result
KeepsProof map name (Err e) before after result = (after ≡ before)
    × SaysRefusal map (of_nodes e) result

-- what is made of the answer of a read
abbrev pub IsAsRead : List ℕ → Result (Vec ℕ) ShelfErr → Result (Vec ℕ) (Result Ending Halt)
    → Type 0
IsAsRead name (Ok bytes) result = (result ≡ Ok bytes) × AreBytes bytes.items
IsAsRead name (Err shelf.Missing) result = IsErrAnd result (SaysMissing name)
IsAsRead name (Err shelf.Fault) result = result ≡ Err (Err halts.Shelf)
IsAsRead name (Err shelf.NoMemory) result = result ≡ Err (Err halts.NoMemory)

-- where the files are told, this one was read once
abbrev pub ReadsFileOnce : List ℕ → Shelved → Shelved → Type 0
ReadsFileOnce name before after = OfFiles before.files
    (λ files. after.reads ≤ before.reads + pieces_of (file files name))

-- where the files are told, each page of this one was read once at most
abbrev pub ReadsPages : List ℕ → Shelved → Shelved → Type 0
ReadsPages name before after = OfFile before.files name (after.reads ≡ before.reads)
    (λ bytes. after.reads ≤ before.reads + pages_in bytes)

-- the map of a tree that stands so
abbrev pub map_at : MapModel → Tree → Opened
map_at s t = map_in s.version t s.batch

-- behind an opened map nothing is read, or of a large one the nodes that the bytes of a proof open
abbrev pub ReadsOpened : (List ℕ → List ℕ) → Opens → MapModel → (pages : ℕ) → List ℕ → Shelved
    → Shelved → Type 0
ReadsOpened hash opened_nodes s pages bytes before after = IfSome s.tree (λ t.
    (after.reads ≡ before.reads) ⊎ ((room + 1 < pages)
    × (after.reads ≤ before.reads + opened_nodes (by s.version hash) t s.batch bytes)))

-- the pieces of a proof, and of a large map the nodes that it opens
abbrev pub IsBeside : Opens → Scheme → Tree → (batch : ℕ) → (pages : ℕ) → Input
    → (before after : ℕ) → Type 0
IsBeside opened_nodes s t batch pages proof before after = (after ≤ before + pieces_of proof)
    ⊎ ((room + 1 < pages)
    × (after ≤ before + pieces_of proof + opened_beside opened_nodes s t batch proof))

-- so many are read of the file of a proof and of the map
abbrev pub ReadsBeside : (List ℕ → List ℕ) → Opens → MapModel → (pages : ℕ) → List ℕ → Shelved
    → Shelved → Type 0
ReadsBeside hash opened_nodes s pages proof before after =
    IfSome s.tree (λ t. OfFiles before.files (λ files. IsBeside opened_nodes (by s.version hash) t
    s.batch pages (file files proof) before.reads after.reads))

-- an input that has to be there was read, or the command ends without it
pub record ReadsInput (name : List ℕ) (before after : Shelved)
    (result : Result (Vec ℕ) (Result Ending Halt)) : Type 0 where
  pub counts : NoneFalls before after
  pub files : after.files ≡ before.files
  pub read : Read name before after result
  pub once : ReadsFileOnce name before after

-- whatever bytes may be there, they stand for one map or have one fault
abbrev pub IsJudged : (List ℕ → List ℕ) → Option Files → List ℕ → Type 0
IsJudged hash told name = (bytes : List ℕ) → IsInput told name (Some bytes)
    → AgreesWithFault (form_at bytes) hash bytes

-- a file was read that stands for this map
pub record HasReadMap (hash : List ℕ → List ℕ) (name : List ℕ) (before after : Shelved)
    (map : Opened) : Type 0 where
  pub counts : NoneFalls before after
  pub files : after.files ≡ before.files
  pub quiet : after.faults ≡ before.faults
  pub once : ReadsPages name before after
  pub bytes : List ℕ
  pub input : IsInput before.files name (Some bytes)
  pub are : AreBytes bytes
  pub judged : IsJudged hash before.files name
  pub found : WasFound before.files (version_of bytes) hash bytes (Ok map)
  pub well : WellFormed map.tree
  pub layers : HasLayers map.version map.tree
  pub low : map.batch < 2 ^ 64

-- what follows on any map opens no bytes but such
abbrev pub GoesOn : (Opened → Plan) → Option Files → Type 0
GoesOn next told = (map : Opened) → AreJudged (next map) told

-- a map was read, or the command comes to its end without it
abbrev pub OpensMapOrEnds : (List ℕ → List ℕ) → List ℕ → Shelved → Shelved
    → Result Opened (Result Ending Halt) → Type 0
OpensMapOrEnds hash name before after (Ok map) = HasReadMap hash name before after map
OpensMapOrEnds hash name before after (Err came) = (next : Opened → Plan) → GoesOn next before.files
    → RunsPlan (needs_map hash name next) before after came

-- what a save leaves: the content, or what stands where it stopped
abbrev pub Saved : List ℕ → Content → Shelved → Shelved → Result Unit Halt → Type 0
Saved name content before after (Ok done) =
    LeavesWritten (File name content) before.files after.files × (after.faults ≡ before.faults)
Saved name content before after (Err halt) = StopsCommand before after halt
    × MayLeave (File name content) before.files after.files

-- what was answered, whatever value it is
abbrev pub done_of : {A : Type 0} → Result A Halt → Result Unit Halt
done_of (Ok value) = Ok tt
done_of (Err halt) = Err halt

-- a file was written
pub record SavesFile (name : List ℕ) (content : Content) (before after : Shelved)
    (result : Result Unit Halt) : Type 0 where
  pub counts : NoneFalls before after
  pub unread : after.reads ≡ before.reads
  pub saved : Saved name content before after result

-- all was printed, or the sink or memory gave out behind a front
abbrev pub PrintsText : Status → List ℕ → Sunk → Sunk → Status → Type 0
PrintsText meant text before after ended =
    ((ended ≡ meant) × TakesBytes before after text × (after.faults ≡ before.faults))
    ⊎ (((ended ≡ NoMemory) ⊎ ((ended ≡ Outside) × Rose before.faults after.faults))
    × TakesFront before after text)

-- what is printed of what a command came to
abbrev pub Finished : Result Ending Halt → Sunk → Sunk → Status → Type 0
Finished (Ok ending) before after status = PrintsText ending.status (printed_of ending) before after
    status
Finished (Err halts.Words) before after status = PrintsText BadWords bad_words_line before after
    status
Finished (Err halts.Shelf) before after status = PrintsText Outside shelf_fault_line before after
    status
Finished (Err halts.NoMemory) before after status = (status ≡ NoMemory) × (after ≡ before)

pub record PrintsEnding (came : Result Ending Halt) (before after : Sunk) (status : Status)
    : Type 0 where
  pub faults : before.faults ≤ after.faults
  pub printed : Finished came before after status
