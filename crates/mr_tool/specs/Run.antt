-- A run of the program on some words, as `run` promises it.
use Rattle.std.specs.Prelude.{◌≡◌, ◌⊎◌, ℕ, List, Option, Some, None}
use Rattle.mr_outside.specs.Files.{Files}
use Rattle.mr_command.specs.Answer.{World, ChangesInPlace, NoCountFalls, HasOutsideCause, IsAnswer, IsQuiet}
use Rattle.mr_tool.specs.Promises.{CompletesWords, AnswersHonest, AcceptsHonestOrCollides, AuditsAccepted, CollidesRightly, AppliesAlike, AppliesHere, RecoversHere, UpgradesAll}
use Rattle.mr_command.specs.Counting.{MayRead, ReadsWithinPlan}
use Rattle.mr_plan.specs.Say.{say}
use Rattle.mr_plan.specs.Spelling.{IsSpelled}
use Rattle.mr_plan.specs.Status.{code_of}
use Rattle.mr_plan.specs.declared.status.Status.{Status}
use Rattle.mr_plan.specs.declared.status.Status.TheVariants.{Outside}
use Rattle.mr_plan.specs.declared.words.Command.{Command}

-- whatever the words spell is answered
abbrev pub AnswersWords : (List ℕ → List ℕ) → List (List ℕ) → World → World → Status → Type 0
AnswersWords hash words before after status =
    (command : Option Command) → IsSpelled words command
    → IsAnswer hash command before after status

-- it blames something outside only where there is a cause
abbrev pub BlamesRightly : (List ℕ → List ℕ) → List (List ℕ) → World → World → Status → Type 0
BlamesRightly hash words before after status =
    (command : Option Command) → IsSpelled words command → status ≡ Outside
    → HasOutsideCause (say hash command) before after

-- where the files are told, no more is read than the command takes
abbrev pub ReadsFewWords : (List ℕ → List ℕ) → List (List ℕ) → World → World → Type 0
ReadsFewWords hash words before after = (command : Option Command) → IsSpelled words command
    → ReadsWithinPlan (MayRead hash command) before.shelf after.shelf

-- the words spell a command on a map in its own file, whose journal may be absent, and the files
-- are not told
abbrev pub MayBeLoud : Option Command → Option Files → Type 0
MayBeLoud None told = ⊥
MayBeLoud (Some command) told = ChangesInPlace command × (told ≡ None)

-- but for these: where it blames nothing outside and no want of memory, nothing outside failed
abbrev pub StaysQuiet : List (List ℕ) → World → World → Status → Type 0
StaysQuiet words before after status = (command : Option Command) → IsSpelled words command
    → MayBeLoud command before.shelf.files ⊎ IsQuiet status before after

-- what is promised of a run on some words, from what there was before to what there is after it
pub record IsRun (hash : List ℕ → List ℕ) (words : List (List ℕ)) (before after : World)
    (status : Status) : Type 0 where
  -- The run answers what is said of the files, or it stopped for want of memory or for something
  -- outside.
  pub answer : AnswersWords hash words before after status
  -- It blames something outside only where that failed, or where an input is told to be absent.
  pub outside : BlamesRightly hash words before after status
  -- No count of faults or of reads falls.
  pub counts : NoCountFalls before after
  -- Where it blames nothing outside and no want of memory, nothing outside failed. Of a map in its
  -- own file, whose journal may be absent, that is said where the files are told alone.
  pub quiet : StaysQuiet words before after status
  -- Where the files are told, no input that is read whole is read twice; of the commands that change
  -- a map in its own file nothing is said. A map that is read page by page takes its pages once. A
  -- large one takes the nodes besides that the proof opens, and for nearest records these twice.
  -- `apply`, where the batch may be applied, takes the pages once more for the copy, and what the
  -- changes read of the new file. Of a proof that `check` judges no piece is read behind the one
  -- that fixes a fault.
  pub reads : ReadsFewWords hash words before after
  -- Inputs that are in order are dealt with to the end. A map that is proved is in order where it is
  -- of version 2, or the queries name no mask; of a count or a join, where it is of version 2.
  pub complete : CompletesWords hash words before after status
  -- The proof that an honest server gives is accepted, and what is printed is right: the answer of
  -- a scan of the map, how many records lie inside a window and are on the layers asked for, or all
  -- pairs of two maps.
  pub honest : AnswersHonest hash words before after status
  -- What is accepted is that proof, and what is printed is right; or the hash function has a
  -- collision.
  pub worth : AcceptsHonestOrCollides hash words before after status
  -- An audit of what is accepted says which of the two it is.
  pub audited : AuditsAccepted hash words before after status
  -- Two strings that are shown as a collision are one.
  pub collides : CollidesRightly hash words before after status
  -- What is made of a map by a batch goes by the map, of either version, and not by the layout of
  -- its file.
  pub alike : AppliesAlike hash words before after status
  -- A map of either version is written anew in version 2, with its tree and its batch.
  pub upgrades : UpgradesAll hash words before after status
  -- A map that a crash left beside its journal is recovered, and it is said whether there was
  -- anything to be done.
  pub recovers : RecoversHere words before after status
  -- A batch is applied to a map in its own file, which then stands for the map after it.
  pub applies_here : AppliesHere hash words before after status

-- a run that ends with this exit status
abbrev pub EndsWith : (List ℕ → List ℕ) → List (List ℕ) → World → World → (code : ℕ) → Type 0
EndsWith hash words before after code =
    (status : Status) × (code ≡ code_of status) × IsRun hash words before after status
