-- What `apply` comes to behind an opened map. This serves private functions.
use Rattle.std.specs.Prelude.{◌≡◌, ℕ, ◌+◌, ◌≤◌, List, length, Option, Some, None, IfSome, Result, Ok, Err}
use Rattle.mr_outside.specs.Files.{Files, file}
use Rattle.mr_outside.specs.State.{Shelved}
use Rattle.mr_outside.specs.Told.{OfFiles}
use Rattle.mr_record.specs.declared.version.Version.{Version}
use Rattle.mr_tree.specs.Nodes.{MapModel}
use Rattle.mr_tree.specs.Tree.{records}
use Rattle.mr_tree.specs.declared.tree.Tree.{Tree}
use Rattle.mr_pages.specs.declared.error.MapErr.{MapErr}
use Rattle.mr_pages.specs.declared.error.MapErr.TheVariants as errors
use Rattle.mr_pages.specs.declared.opening.Opened.{Opened}
use Rattle.mr_batch.specs.Applied.{IsAdmissible}
use Rattle.mr_batch.specs.Changes.{Changes}
use Rattle.mr_batch.specs.Directory.{DirectoryEntries, IsDirectoryOf}
use Rattle.mr_edit.specs.Reads.{reads_along}
use Rattle.mr_edit.specs.declared.error.EditErr.{EditErr}
use Rattle.mr_edit.specs.declared.error.EditErr.TheVariants as edits
use Rattle.mr_command.specs.Counting.{pieces_of, IsFewBehind, IsFewOfBatch}
use Rattle.mr_command.specs.Ending.{IsEndingOrHalt, NoneFalls}
use Rattle.mr_command.specs.private.Steps.{map_at, ComesBut, SaysRefusal, SaysUntold}
use Rattle.mr_plan.specs.Lines.{digest_line}
use Rattle.mr_plan.specs.Outcome.{Outcome}
use Rattle.mr_plan.specs.Plan.{Plan}
use Rattle.mr_plan.specs.Saying.{prints}
use Rattle.mr_command.specs.declared.ending.Ending.{Ending}
use Rattle.mr_command.specs.declared.ending.Halt.{Halt}

-- why a map was not changed, as what it says of the map's file: a page is blamed, or the shelf is
abbrev pub of_edit : EditErr → MapErr
of_edit (edits.Map fault) = errors.Map fault
of_edit edits.Missing = errors.Fault
of_edit edits.Fault = errors.Fault
of_edit edits.NoMemory = errors.NoMemory

-- Why a map was not copied: what is missing is its file.
abbrev pub of_copy : EditErr → MapErr
of_copy (edits.Map fault) = errors.Map fault
of_copy edits.Missing = errors.Missing
of_copy edits.Fault = errors.Fault
of_copy edits.NoMemory = errors.NoMemory

-- the root digest of a map that was written, or why it was not
abbrev pub SaysSealed : List ℕ → Result (List ℕ) EditErr → Result Ending Halt → Type 0
SaysSealed map (Ok digest) result = (length digest ≡ 32)
    × IsEndingOrHalt (prints (digest_line digest)) result
SaysSealed map (Err e) result = SaysRefusal map (of_edit e) result

-- the directory is that of the records, to which the batch may be applied
pub record MayApply (dir : DirectoryEntries) (held : ℕ) (batch : Changes) (t : Tree) : Type 0 where
  pub directory : IsDirectoryOf dir (records t)
  pub admissible : IsAdmissible (records t) held batch

-- What a command comes to behind an opened map that stands for this: what follows on the map, where
-- its tree is told, and what may be said, where the files are not told. What it reads is counted
-- apart.
pub record ComesBehind (may : Outcome → Type 0) (s : MapModel) (next : Opened → Plan)
    (few : Tree → Type 0) (before after : Shelved) (result : Result Ending Halt) : Type 0 where
  pub counts : NoneFalls before after
  pub told : IfSome s.tree (λ t. ComesBut (next (map_at s t)) before after result)
  pub untold : before.files ≡ None → SaysUntold may before after result
  pub few_read : IfSome s.tree few

-- what is read for the copy of a map in so many pages, and for the changes of a batch on it
abbrev pub IsFewOfCopy : (pages : ℕ) → Changes → (before after : ℕ) → Tree → Type 0
IsFewOfCopy pages batch before after t = after ≤ before + (pages + reads_along t batch.list)

-- behind a batch
abbrev pub IsFewOfChanges : (pages held : ℕ) → Changes → (before after : ℕ) → Tree → Type 0
IsFewOfChanges pages held batch before after t =
    (n : ℕ) × (after ≤ before + n) × IsFewBehind pages t held batch n

-- behind the text of it, whose lines are of this version
abbrev pub IsFewOfText : Version → (pages held : ℕ) → List ℕ → (before after : ℕ) → Tree → Type 0
IsFewOfText v pages held text before after t =
    (n : ℕ) × (after ≤ before + n) × IsFewOfBatch v pages t held (Some text) n

-- with the pieces of its file
abbrev pub IsFewOfFile : Version → (pages held : ℕ) → Option Files → List ℕ → (before after : ℕ)
    → Tree → Type 0
IsFewOfFile v pages held told name before after t = OfFiles told (λ files. (n : ℕ)
    × (after ≤ before + pieces_of (file files name) + n)
    × IsFewOfBatch v pages t held (file files name) n)
