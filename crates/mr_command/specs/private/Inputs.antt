-- A step of a command that gives what the command goes on with, or ends it. This serves private
-- functions.
use Rattle.std.specs.Prelude.{◌≡◌, ◌⊎◌, ℕ, ◌+◌, ◌≤◌, List, Option, Some, Result, Ok, Err}
use Rattle.std.specs.Global.{Vec}
use Rattle.mr_outside.specs.Files.{Files}
use Rattle.mr_outside.specs.State.{Shelved}
use Rattle.mr_outside.specs.Told.{OfFile}
use Rattle.mr_record.specs.Answer.{RefusesText}
use Rattle.mr_record.specs.declared.text_fault.TextErr.{TextErr}
use Rattle.mr_record.specs.declared.text_fault.TextErr.TheVariants as texts
use Rattle.mr_record.specs.declared.text_fault.TextFault.{TextFault}
use Rattle.mr_tree.specs.Nodes.{MapModel}
use Rattle.mr_pages.specs.File.{form_at}
use Rattle.mr_pages.specs.Opening.{pages_in}
use Rattle.mr_pages.specs.declared.error.MapErr.{MapErr}
use Rattle.mr_store.specs.Opening.{RefusesMap, TellsMap}
use Rattle.mr_command.specs.Counting.{pieces_of, reads_taken}
use Rattle.mr_command.specs.Ending.{AreJudged, RunsPlan, IsEndingOrHalt}
use Rattle.mr_command.specs.private.Steps.{ReadsInput, SaysRefusal}
use Rattle.mr_plan.specs.Lines.{bad_text_line}
use Rattle.mr_plan.specs.Plan.{Input, Plan, comes}
use Rattle.mr_plan.specs.Say.{ends, needs}
use Rattle.mr_command.specs.declared.ending.Ending.{Ending}
use Rattle.mr_command.specs.declared.ending.Halt.{Halt}
use Rattle.mr_command.specs.declared.ending.Halt.TheVariants as halts
use Rattle.mr_plan.specs.declared.status.Status.TheVariants.{BadText}

-- What a command comes to behind what the step gave is what its plan comes to; where the step gave
-- nothing, the command has come to its end.
abbrev pub GoesOnOrEnds : {A : Type 0} → Plan → (A → Plan) → Shelved → Shelved
    → Result A (Result Ending Halt) → Type 0
GoesOnOrEnds plan next before after (Ok x) = (later : Shelved) → (result : Result Ending Halt)
    → RunsPlan (next x) after later result → RunsPlan plan before later result
GoesOnOrEnds plan next before after (Err came) = RunsPlan plan before after came

-- what follows on bytes takes them from the file in pieces, and opens none but such as stand for
-- one map or have one fault
pub record FollowsBytes (next : List ℕ → Plan) (told : Option Files) : Type 0 where
  pub pieces : (bytes : List ℕ) → reads_taken (next bytes) (Some bytes) ≡ pieces_of (Some bytes)
  pub judged : (bytes : List ℕ) → AreJudged (next bytes) told

-- what follows on the values of a text: the line on its fault, where it has one; and at any time it
-- may be given up for want of memory
pub record FollowsText {A : Type 0} (next : Result A TextFault → Plan) : Type 0 where
  pub fault : (f : TextFault) → next (Err f) ≡ comes (ends BadText (bad_text_line f))
  pub pieces : (found : Result A TextFault) (input : Input)
      → reads_taken (next found) input ≡ pieces_of input
  pub judged : (found : Result A TextFault) (told : Option Files) → AreJudged (next found) told
  pub given_up : (found : Result A TextFault) (at : Shelved)
      → RunsPlan (next found) at at (Err halts.NoMemory)

-- the values of the text in a file that has to be there, by how such a text is read
abbrev pub ReadsText : {A : Type 0} → (List ℕ → Result (List A) TextFault) → List ℕ → Shelved
    → Shelved → Result (Vec A) (Result Ending Halt) → Type 0
ReadsText {A} values name before after result =
    (next : Result (List A) TextFault → Plan) → FollowsText next
    → GoesOnOrEnds (needs name (λ text. next (values text))) (λ (v : Vec A). next (Ok v.items))
    before after result

-- what is said of a text whose values could not be had
abbrev pub SaysText : TextErr → Result Ending Halt → Type 0
SaysText (texts.Text fault) came = IsEndingOrHalt (ends BadText (bad_text_line fault)) came
SaysText texts.NoMemory came = came ≡ Err halts.NoMemory

-- a text that was read has no value, for this reason
pub record HasNoValue {A : Type 0} (value : List ℕ → Result A TextFault) (name : List ℕ)
    (before after : Shelved) (came : Result Ending Halt) : Type 0 where
  pub text : Vec ℕ
  pub read : ReadsInput name before after (Ok text)
  pub error : TextErr
  pub refuses : RefusesText error (value text.items)
  pub says : SaysText error came

-- the value of the text in a file that has to be there, or why it could not be had
abbrev pub ReadsValue : {A : Type 0} → (List ℕ → Result A TextFault) → List ℕ → Shelved → Shelved
    → Result A (Result Ending Halt) → Type 0
ReadsValue value name before after (Ok x) =
    (text : Vec ℕ) × ReadsInput name before after (Ok text) × (value text.items ≡ Ok x)
ReadsValue value name before after (Err came) =
    ReadsInput name before after (Err came) ⊎ HasNoValue value name before after came

-- a map is not opened, for this reason, and what the command comes to says it
pub record IsUnopened (hash : List ℕ → List ℕ) (name : List ℕ) (before after : Shelved)
    (came : Result Ending Halt) : Type 0 where
  pub error : MapErr
  pub refuses : RefusesMap hash name before after error
  pub says : SaysRefusal name error came

-- an opened map stands for this: each of its pages was read once at most, and no fault was counted
pub record WasOpened (hash : List ℕ → List ℕ) (name : List ℕ) (before after : Shelved)
    (s : MapModel) : Type 0 where
  pub answers : OfFile before.files name ⊥ (λ bytes. TellsMap (form_at bytes) hash s bytes)
  pub files : after.files ≡ before.files
  pub quiet : after.faults ≡ before.faults
  pub more : before.reads ≤ after.reads
  pub reads : OfFile before.files name ⊥ (λ bytes. after.reads ≤ before.reads + pages_in bytes)
