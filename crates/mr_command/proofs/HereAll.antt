-- `apply-here` from its words on: each way in which it may end.
use Rattle.std.proofs.Common.{◌≡◌, ◌⊎◌, ℕ, ◌+◌, ◌≤◌, List, [], Option, Some, None, Result, Ok, Err, refl, sym, subst, inl, inr, arith}
use Rattle.std.specs.Prelude.{⊤, MatchOption}
use Rattle.mr_outside.specs.Faults.{Rose}
use Rattle.mr_outside.specs.Files.{Files, file}
use Rattle.mr_outside.specs.State.{Shelved}
use Rattle.mr_outside.specs.Told.{OfFile, OfFiles, MayMiss}
use Rattle.mr_record.specs.declared.version.Version.{Version}
use Rattle.mr_record.specs.declared.text_fault.TextFault.{TextFault}
use Rattle.mr_outside.specs.Bytes.{AreBytes}
use Rattle.mr_pages.specs.File.{version_of}
use Rattle.mr_pages.specs.Law.{AgreesWithFault}
use Rattle.mr_pages.specs.PageBytes.{form_by}
use Rattle.mr_batch.specs.BatchText.{batch_of_text}
use Rattle.mr_batch.specs.Changes.{Changes}
use Rattle.mr_journal.specs.Format.{restored}
use Rattle.mr_journal.specs.Images.{Image}
use Rattle.mr_journal.specs.Recovered.{restored_in}
use Rattle.mr_journal.specs.Shelves.{image_on, or_none}
use Rattle.mr_plan.specs.Plan.{Input, LacksInput, Plan, seeks}
use Rattle.mr_plan.specs.Say.{beside, given, needs, say_apply_here, say_change_here, say_text_here}
use Rattle.mr_plan.specs.Saying.{journal_of, says_missing}
use Rattle.mr_plan.specs.Untold.{MaySayApplyHere}
use Rattle.mr_plan.specs.declared.status.Status.{Status}
use Rattle.mr_plan.specs.declared.status.Status.TheVariants.{Outside}
use Rattle.mr_command.specs.Counting.{AllowsReads}
use Rattle.mr_command.specs.Ending.{AreJudged, ComesLoudly, EndsAsSaid, GivesUpAsSaid, NoneFalls, StopsCommand, printed_of}
use Rattle.mr_command.specs.private.Steps.{SaysMissing}
use Rattle.mr_command.specs.declared.ending.Ending.{Ending}
use Rattle.mr_command.specs.declared.ending.Halt.{Halt}
use Rattle.mr_command.proofs.RestoredBytes.{restored_bytes}

no_bytes : AreBytes []
no_bytes k d within = absurd (omega (arith, within))

or_bytes : (o : Option (List ℕ)) → MatchOption o ⊤ AreBytes → AreBytes (or_none o)
or_bytes None are = no_bytes
or_bytes (Some bytes) are = are

module _ (hash : List ℕ → List ℕ)
    (agree : (w : Version) (bytes : List ℕ) → AreBytes bytes → AgreesWithFault (form_by w) hash bytes)
    (map batch : List ℕ) where
  abbrev later : List ℕ → List ℕ → Plan
  later bytes journal = needs batch (say_change_here hash map (beside bytes journal))

  abbrev pub behind : List ℕ → Plan
  behind bytes = seeks (journal_of map) (later bytes)

  -- ---- the bytes that are opened stand for one map or have one fault

  judged_batch : (w : Version) (was : Image) (told : Option Files) → AreBytes (restored was)
      → (r : Result Changes TextFault) → AreJudged (say_text_here w hash map was r) told
  judged_batch w was told are (Err fault) = tt
  judged_batch w was told are (Ok b) = (agree w (restored was) are, λ found shown. tt)

  judged_text : (was : Image) (told : Option Files) → AreBytes (restored was) → (input : Input)
      → AreJudged (given batch (say_change_here hash map was) input) told
  judged_text was told are None = tt
  judged_text was told are (Some text) =
      judged_batch (version_of (restored was)) was told are (batch_of_text (version_of (restored was)) text)

  judged_map : (files : Files) → ((q : List ℕ) → MatchOption (file files q) ⊤ AreBytes) → (input : Input)
      → file files map ≡ input → AreJudged (given map behind input) (Some files)
  judged_map files all None is = tt
  judged_map files all (Some bytes) is = λ journal sought input read.
      judged_text (beside bytes journal) (Some files)
      (restored_bytes (beside bytes journal) (subst (λ o. MatchOption o ⊤ AreBytes) is (all map))
      (subst AreBytes sought (or_bytes (file files (journal_of map)) (all (journal_of map))))) input

  pub judged_here : (told : Option Files) → ((q : List ℕ) → OfFile told q ⊤ AreBytes)
      → OfFiles told (λ files. AreJudged (say_apply_here hash map batch) (Some files))
  judged_here None all = tt
  judged_here (Some files) all = λ input is. judged_map files all input is

  -- the map that is restored is of bytes
  pub held_bytes : (files : Files) → ((q : List ℕ) → MatchOption (file files q) ⊤ AreBytes)
      → AreBytes (restored_in map (journal_of map) files)
  held_bytes files all =
      restored_bytes (image_on map (journal_of map) files) (or_bytes (file files map) (all map))
      (or_bytes (file files (journal_of map)) (all (journal_of map)))

  module _ (before mid : Shelved) (same : mid.files ≡ before.files) (faults : before.faults ≤ mid.faults)
      (reads : mid.reads ≡ before.reads) (all : (q : List ℕ) → OfFile before.files q ⊤ AreBytes) where
    abbrev Comes : Shelved → Result Ending Halt → Type 0
    Comes after result =
        ComesLoudly (say_apply_here hash map batch) (MaySayApplyHere hash map batch)
        (AllowsReads (say_apply_here hash map batch)) before after result

    few_none : (told : Option Files) → OfFiles told
        (λ files. (n : ℕ) × (mid.reads ≤ before.reads + n) × AllowsReads (say_apply_here hash map batch) files n)
    few_none None = tt
    few_none (Some files) = (0, omega (arith, reads), (0, 0, refl, omega arith, inl refl))

    counted : NoneFalls before mid
    counted = record { faults = faults; reads = omega (arith, reads) }

    up_none : (told : Option Files) → mid.files ≡ told
        → GivesUpAsSaid (say_apply_here hash map batch) (MaySayApplyHere hash map batch) told mid.files
    up_none None is = (is, (says_missing map, inl refl))
    up_none (Some files) is = inl is

    -- the shelf failed, or memory ran out
    pub halts_here : (halt : Halt) → StopsCommand before mid halt → Comes mid (Err halt)
    halts_here halt stops = record {
      counts = counted;
      judged = judged_here before.files all;
      came = (stops, up_none before.files same);
      outside = tt;
      quiet = λ some. tt;
      few = few_none before.files;
    }

    -- the map is missing
    module _ (may : MayMiss before.files map before.faults mid.faults) where
      ends_none : (told : Option Files) → mid.files ≡ told → MayMiss told map before.faults mid.faults
          → (status : Status) (text : List ℕ) → status ≡ Outside → text ≡ (says_missing map).printed
          → EndsAsSaid (say_apply_here hash map batch) (MaySayApplyHere hash map batch) told mid.files status text
      ends_none None is missed status text outside printed =
          (says_missing map, inl refl, outside, printed, is)
      ends_none (Some files) is missed status text outside printed = (None, missed, tt, (outside, printed, is))

      blames : (told : Option Files) → MayMiss told map before.faults mid.faults
          → Rose before.faults mid.faults ⊎ LacksInput (say_apply_here hash map batch) told
      blames None missed = inl missed
      blames (Some files) missed = inr (inl missed)

      pub missing_here : (result : Result Ending Halt) → SaysMissing map result → Comes mid result
      missing_here (Ok ending) says = record {
        counts = counted;
        judged = judged_here before.files all;
        came = ends_none before.files same may ending.status (printed_of ending) says.0 says.1;
        outside = λ outside. blames before.files may;
        quiet = λ some settled. absurd (settled.0 says.0);
        few = few_none before.files;
      }
      missing_here (Err halt) says = halts_here halt (subst (StopsCommand before mid) (sym says) tt)
