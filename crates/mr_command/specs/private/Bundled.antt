-- A text that goes to its file piece by piece. This serves private functions.
use Rattle.std.specs.Prelude.{◌≡◌, List, ℕ, ◌++◌, Err}
use Rattle.mr_outside.specs.Files.{with_file}
use Rattle.mr_outside.specs.State.{Shelved}
use Rattle.mr_outside.specs.Writing.{IsChanged}
use Rattle.mr_command.specs.private.Steps.{SavesFile}
use Rattle.mr_plan.specs.Outcome.{text}
use Rattle.mr_command.specs.declared.ending.Halt.{Halt}

-- so much of a text was made: a front of it stands in the file, and what is behind that waits
pub record HasMadeText (name made waits : List ℕ) (before now : Shelved) : Type 0 where
  pub front : List ℕ
  pub joined : front ++ waits ≡ made
  pub put : IsChanged (with_file name) front before.files now.files
  pub faults : now.faults ≡ before.faults
  pub reads : now.reads ≡ before.reads

-- writing was given up when so much was made, whatever was to follow
abbrev pub IsGivenUp : (name made : List ℕ) → (before after : Shelved) → Halt → Type 0
IsGivenUp name made before after halt =
    (rest : List ℕ) → SavesFile name (text (made ++ rest)) before after (Err halt)
