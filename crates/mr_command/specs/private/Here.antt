-- What `apply-here` comes to behind an update in place. This serves private functions.
use Rattle.std.specs.Prelude.{◌≡◌, ◌⊎◌, ℕ, List, IsSome, Result, Ok, Err, IsErrOf}
use Rattle.mr_outside.specs.Faults.{Rose}
use Rattle.mr_outside.specs.State.{Shelved}
use Rattle.mr_record.specs.declared.version.Version.{Version}
use Rattle.mr_batch.specs.BatchText.{batch_of_text}
use Rattle.mr_batch.specs.Changes.{Changes}
use Rattle.mr_journal.specs.Shelves.{KeepsBeside}
use Rattle.mr_here.specs.OnFiles.{AppliesTo, TellsVersion}
use Rattle.mr_here.specs.Updated.{AnswersSome, WhereJudged}
use Rattle.mr_here.specs.declared.error.HereErr.{HereErr}
use Rattle.mr_here.specs.declared.error.HereErr.TheVariants as errors
use Rattle.mr_plan.specs.Found.{bad_map_line}
use Rattle.mr_plan.specs.Lines.{bad_batch_line, digest_line, needs_version_2_line}
use Rattle.mr_plan.specs.Saying.{ends, journal_of, prints}
use Rattle.mr_plan.specs.declared.status.Status.TheVariants.{BadBatch, BadMap, NeedsVersion2}
use Rattle.mr_command.specs.Ending.{IsEndingOrHalt, NoneFalls, StopsCommand}
use Rattle.mr_command.specs.private.Inputs.{ReadsValue}
use Rattle.mr_command.specs.declared.ending.Ending.{Ending}
use Rattle.mr_command.specs.declared.ending.Halt.{Halt}
use Rattle.mr_command.specs.declared.ending.Halt.TheVariants as halts

-- the root digest of the map after the batch, or why it was not applied
abbrev pub SaysApplied : Result (List ℕ) HereErr → Result Ending Halt → Type 0
SaysApplied (Ok digest) result = IsEndingOrHalt (prints (digest_line digest)) result
SaysApplied (Err (errors.Map fault)) result =
    IsEndingOrHalt (ends BadMap (bad_map_line fault)) result
SaysApplied (Err errors.Layer) result =
    IsEndingOrHalt (ends NeedsVersion2 needs_version_2_line) result
SaysApplied (Err (errors.Batch fault)) result =
    IsEndingOrHalt (ends BadBatch (bad_batch_line fault)) result
SaysApplied (Err errors.Fault) result = result ≡ Err halts.Shelf
SaysApplied (Err errors.NoMemory) result = result ≡ Err halts.NoMemory

-- ---- what was done

-- the batch was applied to the map in a file, or it is said why it was not
pub record UpdatesFile (hash : List ℕ → List ℕ) (map : List ℕ) (b : Changes)
    (before after : Shelved) (result : Result Ending Halt) : Type 0 where
  pub answer : Result (List ℕ) HereErr
  pub applies : AppliesTo hash map (journal_of map) b before.files after.files answer
  pub some : AnswersSome hash b answer
  pub beside : KeepsBeside map (journal_of map) before.files after.files
  pub fault : IsErrOf answer errors.Fault → Rose before.faults after.faults
  pub quiet : IsSome before.files → WhereJudged answer (after.faults ≡ before.faults)
  pub counts : NoneFalls before after
  pub says : SaysApplied answer result

-- the batch in a file, whose lines are of this version, was read, and then applied; or it was not
-- read
abbrev pub UpdatesByText : (List ℕ → List ℕ) → (map batch : List ℕ) → Version → Shelved → Shelved
    → Result Ending Halt → Type 0
UpdatesByText hash map batch v before after result =
    ReadsValue (batch_of_text v) batch before after (Err result)
    ⊎ ((b : Changes) × (mid : Shelved) × ReadsValue (batch_of_text v) batch before mid (Ok b)
    × UpdatesFile hash map b mid after result)

-- the command stopped before anything was done
pub record StopsBefore (before after : Shelved) (result : Result Ending Halt) : Type 0 where
  pub halt : Halt
  pub is : result ≡ Err halt
  pub stops : StopsCommand before after halt
  pub files : after.files ≡ before.files
  pub counts : NoneFalls before after

-- the version of the map was told, and then the batch was read
pub record KnowsVersion (hash : List ℕ → List ℕ) (map batch : List ℕ) (before after : Shelved)
    (result : Result Ending Halt) : Type 0 where
  pub version : Version
  pub mid : Shelved
  pub tells : TellsVersion map (journal_of map) before.files (Ok version)
  pub files : mid.files ≡ before.files
  pub counts : NoneFalls before mid
  pub quiet : IsSome before.files → mid.faults ≡ before.faults
  pub updates : UpdatesByText hash map batch version mid after result

abbrev pub UpdatesThere : (List ℕ → List ℕ) → (map batch : List ℕ) → Shelved → Shelved
    → Result Ending Halt → Type 0
UpdatesThere hash map batch before after result = StopsBefore before after result
    ⊎ KnowsVersion hash map batch before after result
