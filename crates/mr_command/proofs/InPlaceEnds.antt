-- `recover`: what it comes to where the map's file is there, and where it is not.
use Rattle.std.proofs.Common.{◌≡◌, ℕ, ◌+◌, ◌≤◌, Bool, List, [], ◌⊎◌, Option, Some, None, is_some, IsSome, Result, Ok, Err, OnOk, refl, sym, ap, subst, ◌∙◌, inl, inr, arith}
use Rattle.std.specs.Prelude.{false, IfOk, IsErrOf, MatchOption}
use Rattle.mr_outside.specs.Faults.{Rose}
use Rattle.mr_outside.specs.Files.{Files, file}
use Rattle.mr_outside.specs.State.{Shelved}
use Rattle.mr_outside.specs.Told.{OfFile, OfFiles, MayMiss}
use Rattle.mr_outside.specs.Bytes.{AreBytes}
use Rattle.mr_journal.specs.Format.{is_open}
use Rattle.mr_journal.specs.Images.{Image}
use Rattle.mr_journal.specs.Recovered.{RecoversMap}
use Rattle.mr_journal.specs.Shelves.{bytes_or_none, image_on, or_none, KeepsBeside}
use Rattle.mr_journal.specs.declared.disk.DiskErr.{DiskErr}
use Rattle.mr_journal.specs.declared.disk.DiskErr.TheVariants as disks
use Rattle.mr_plan.specs.Lines.{recovered_line}
use Rattle.mr_plan.specs.Outcome.{InPlace, IsMended, LeavesWritten, MayLeave}
use Rattle.mr_plan.specs.Plan.{Input, LacksInput, Plan, comes, seeks}
use Rattle.mr_plan.specs.Say.{beside, given, say_recover, say_recovered}
use Rattle.mr_plan.specs.Saying.{journal_of, says_missing, say_in_place}
use Rattle.mr_plan.specs.Untold.{MaySayRecover}
use Rattle.mr_plan.specs.declared.status.Status.{Status}
use Rattle.mr_plan.specs.declared.status.Status.TheVariants.{Done, Outside}
use Rattle.mr_plan.proofs.InPlace.{mended_may, recovered_left}
use Rattle.mr_command.specs.Counting.{AllowsReads}
use Rattle.mr_command.specs.Ending.{AreJudged, ComesLoudly, EndsAsSaid, GivesUpAsSaid, IsCalm, NoneFalls, StopsCommand, printed_of}
use Rattle.mr_command.specs.private.InPlace.{halt_of_disk, HasRecovered, MayHaveRecovered, RecoversFile, SaysRecovered}
use Rattle.mr_command.specs.private.Steps.{SaysMissing}
use Rattle.mr_command.specs.declared.ending.Ending.{Ending}
use Rattle.mr_command.specs.declared.ending.Halt.{Halt}
use Rattle.mr_command.specs.declared.ending.Halt.TheVariants as halts

-- ---- the two files are recovered

module _ (map : List ℕ) (before after : Shelved) (counts : NoneFalls before after)
  where
    abbrev journal : List ℕ
    journal = journal_of map

    -- it was answered
    answered : (was : Bool) (ending : Ending) (told : Option Files) → KeepsBeside map journal told after.files
        → (was ≡ false → after.files ≡ told) → RecoversMap map journal told after.files (Ok was)
        → ending.status ≡ Done
        → printed_of ending ≡ recovered_line was
        → HasRecovered map told after.files ending.status (printed_of ending)
    answered was ending None kept clean so done printed = (was, done, printed, kept)
    answered was ending (Some files) kept clean so done printed = (
      done,
      printed ∙ ap recovered_line so.0,
      recovered_left map journal (Some files) after.files (Ok was) kept clean so,
    )

    -- it was not, or not said
    stopped : (r : Result Bool DiskErr) (told : Option Files) → KeepsBeside map journal told after.files
        → IfOk r (λ was. was ≡ false → after.files ≡ told) → RecoversMap map journal told after.files r
        → MayHaveRecovered map told after.files
    stopped r None kept clean so = kept
    stopped (Ok was) (Some files) kept clean so =
        mended_may map journal (image_on map journal files) None (Some files) after.files
        (recovered_left map journal (Some files) after.files (Ok was) kept clean so)
    stopped (Err e) (Some files) kept clean so =
        recovered_left map journal (Some files) after.files (Err e) kept clean so

    stops : (e : DiskErr) → (◌≡◌ {A = Result Bool DiskErr} (Err e) (Err disks.Fault) → Rose before.faults after.faults)
        → StopsCommand before after (halt_of_disk e)
    stops disks.Fault fault = fault refl
    stops disks.NoMemory fault = tt

    pub recovers_so : (r : Result Bool DiskErr) (result : Result Ending Halt)
        → (IsErrOf r disks.Fault → Rose before.faults after.faults)
        → (IsSome before.files → OnOk r (after.faults ≡ before.faults))
        → KeepsBeside map journal before.files after.files
        → IfOk r (λ was. was ≡ false → after.files ≡ before.files)
        → RecoversMap map journal before.files after.files r → SaysRecovered r result
        → RecoversFile map before after result
    recovers_so (Ok was) (Ok ending) fault quiet kept clean so says = record {
      counts = counts;
      quiet = λ some settled. quiet some;
      came = answered was ending before.files kept clean so says.status says.printed;
    }
    recovers_so (Ok was) (Err halt) fault quiet kept clean so says = record {
      counts = counts;
      quiet = λ some. tt;
      came = (subst (StopsCommand before after) (sym says) tt, stopped (Ok was) before.files kept clean so);
    }
    recovers_so (Err e) result fault quiet kept clean so says =
        subst (RecoversFile map before after) (sym says)
        (record {
          counts = counts;
          quiet = λ some. tt;
          came = (stops e fault, stopped (Err e) before.files kept clean so);
        })

-- memory ran out before anything was done
pub recovers_none : (map : List ℕ) (s : Shelved) → RecoversFile map s s (Err halts.NoMemory)
recovers_none map s = record {
  counts = record { faults = omega arith; reads = omega arith };
  quiet = λ some. tt;
  came = (tt, as_before s.files);
}
  where
    as_before : (told : Option Files) → MayHaveRecovered map told told
    as_before None = refl
    as_before (Some files) = inl refl

-- ---- the whole of it

pub found_in : (o : Option (List ℕ)) → MatchOption o ⊥ AreBytes → (bytes : List ℕ) × (o ≡ Some bytes) × AreBytes bytes
found_in None held = absurd held
found_in (Some bytes) held = (bytes, refl, held)

module _ (map : List ℕ) where
  abbrev behind : List ℕ → Plan
  behind bytes = seeks (journal_of map) (λ journal. comes (say_recovered map (beside bytes journal)))

  judged : (input : Input) (told : Option Files) → AreJudged (given map behind input) told
  judged None told = tt
  judged (Some bytes) told = λ sought is. tt

  judged_files : (told : Option Files) → OfFiles told (λ files. AreJudged (say_recover map) (Some files))
  judged_files None = tt
  judged_files (Some files) = λ input is. judged input (Some files)

  module _ (before mid : Shelved) (same : mid.files ≡ before.files) (faults : before.faults ≤ mid.faults)
      (reads : mid.reads ≡ before.reads) where
    abbrev Comes : Shelved → Result Ending Halt → Type 0
    Comes after result =
        ComesLoudly (say_recover map) (MaySayRecover map) (AllowsReads (say_recover map)) before after result

    -- nothing is read of a file that is missing
    few_none : (told : Option Files) → OfFiles told
        (λ files. (n : ℕ) × (mid.reads ≤ before.reads + n) × AllowsReads (say_recover map) files n)
    few_none None = tt
    few_none (Some files) = (0, omega (arith, reads), (0, 0, refl, omega arith, inl refl))

    counted : NoneFalls before mid
    counted = record { faults = faults; reads = omega (arith, reads) }

    up_none : (told : Option Files) → mid.files ≡ told
        → GivesUpAsSaid (say_recover map) (MaySayRecover map) told mid.files
    up_none None is = (is, (says_missing map, inl refl))
    up_none (Some files) is = inl is

    -- the shelf failed, or memory ran out
    pub halts_so : (halt : Halt) → StopsCommand before mid halt → Comes mid (Err halt)
    halts_so halt stops = record {
      counts = counted;
      judged = judged_files before.files;
      came = (stops, up_none before.files same);
      outside = tt;
      quiet = λ some. tt;
      few = few_none before.files;
    }

    -- it is missing
    module _ (may : MayMiss before.files map before.faults mid.faults) where
      ends_none : (told : Option Files) → mid.files ≡ told → MayMiss told map before.faults mid.faults
          → (status : Status) (text : List ℕ) → status ≡ Outside → text ≡ (says_missing map).printed
          → EndsAsSaid (say_recover map) (MaySayRecover map) told mid.files status text
      ends_none None is missed status text outside printed =
          (says_missing map, inl refl, outside, printed, is)
      ends_none (Some files) is missed status text outside printed = (None, missed, tt, (outside, printed, is))

      blames : (told : Option Files) → MayMiss told map before.faults mid.faults
          → Rose before.faults mid.faults ⊎ LacksInput (say_recover map) told
      blames None missed = inl missed
      blames (Some files) missed = inr (inl missed)

      pub missing_so : (result : Result Ending Halt) → SaysMissing map result → Comes mid result
      missing_so (Ok ending) says = record {
        counts = counted;
        judged = judged_files before.files;
        came = ends_none before.files same may ending.status (printed_of ending) says.0 says.1;
        outside = λ outside. blames before.files may;
        quiet = λ some settled. absurd (settled.0 says.0);
        few = few_none before.files;
      }
      missing_so (Err halt) says = halts_so halt (subst (StopsCommand before mid) (sym says) tt)

    -- it is there
    module _ (there : OfFile before.files map ⊥ AreBytes) (still : mid.faults ≡ before.faults) (after : Shelved) where
      calm_on : (result : Result Ending Halt) → IsCalm mid after result → IsCalm before after result
      calm_on (Ok ending) calm = λ settled. calm settled ∙ still
      calm_on (Err halt) calm = tt

      still_told : IsSome before.files → IsSome mid.files
      still_told some = ap is_some same ∙ some

      stops_on : (halt : Halt) → StopsCommand mid after halt → StopsCommand before after halt
      stops_on halts.Words stops = stops
      stops_on halts.Shelf stops = omega (arith, faults, stops)
      stops_on halts.NoMemory stops = tt

      abbrev nothing : Image
      nothing = beside [] []

      abbrev is_mended : Files → Type 0
      is_mended new = IsMended nothing None (image_on map (journal_of map) new)

      ends_there : (told : Option Files) → OfFile told map ⊥ AreBytes → (status : Status) (text : List ℕ)
          → HasRecovered map told after.files status text
          → EndsAsSaid (say_recover map) (MaySayRecover map) told after.files status text
      ends_there None there status text has = (
        say_in_place Done (recovered_line has.0) map nothing None,
        inr (has.0, (nothing, refl)),
        has.1,
        has.2,
        (has.3, subst (λ o. OfFiles o is_mended) (sym has.3) tt, λ shut. has.3),
      )
      ends_there (Some files) there status text has =
          let f = found_in (file files map) there in
          let journal = bytes_or_none files (journal_of map) in
          let e : image_on map (journal_of map) files ≡ beside f.0 journal =
          ap (λ b. beside b journal) (ap or_none f.1) in (
            Some f.0,
            f.1,
            f.2,
            (
              journal,
              refl,
              (
                has.0,
                has.1 ∙ ap (λ (i : Image). recovered_line (is_open i)) e,
                subst (λ (i : Image). LeavesWritten (InPlace map (journal_of map) i None) (Some files)
                    after.files) e
                    has.2,
              ),
            ),
          )

      up_there : (told : Option Files) → OfFile told map ⊥ AreBytes → MayHaveRecovered map told after.files
          → GivesUpAsSaid (say_recover map) (MaySayRecover map) told after.files
      up_there None there may = (may, (says_missing map, inl refl))
      up_there (Some files) there may =
          let f = found_in (file files map) there in
          let journal = bytes_or_none files (journal_of map) in
          let e : image_on map (journal_of map) files ≡ beside f.0 journal =
          ap (λ b. beside b journal) (ap or_none f.1) in
          inr (
            Some f.0,
            f.1,
            inr (
              journal,
              refl,
              subst (λ (i : Image). MayLeave (InPlace map (journal_of map) i None) (Some files)
                  after.files) e may,
            ),
          )

      few_there : (told : Option Files) → OfFile told map ⊥ AreBytes → OfFiles told
          (λ files. (n : ℕ) × (after.reads ≤ before.reads + n) × AllowsReads (say_recover map) files n)
      few_there None there = tt
      few_there (Some files) there =
          let f = found_in (file files map) there in (
            after.reads,
            omega arith,
            (
              0,
              after.reads,
              omega arith,
              omega arith,
              inr (subst (λ input. AllowsReads (given map behind input) files after.reads) (sym f.1) tt),
            ),
          )

      done_of : (told : Option Files) (status : Status) (text : List ℕ) → HasRecovered map told after.files status text
          → status ≡ Done
      done_of None status text has = has.1
      done_of (Some files) status text has = has.0

      all : NoneFalls mid after → NoneFalls before after
      all on = record { faults = omega (arith, faults, on.faults); reads = omega (arith, reads, on.reads) }

      pub there_so : (result : Result Ending Halt) → RecoversFile map mid after result → Comes after result
      there_so (Ok ending) on =
          let has = subst (λ told. HasRecovered map told after.files ending.status (printed_of ending)) same on.came in
          record {
            counts = all on.counts;
            judged = judged_files before.files;
            came = ends_there before.files there ending.status (printed_of ending) has;
            outside = λ outside. absurd (other (sym (done_of before.files ending.status (printed_of ending) has)
                ∙ outside));
            quiet = λ some. calm_on (Ok ending) (on.quiet (still_told some));
            few = few_there before.files there;
          }
        where
          other : Done ≡ Outside → ⊥
          other e = cc
      there_so (Err halt) on = record {
        counts = all on.counts;
        judged = judged_files before.files;
        came = (
          stops_on halt on.came.0,
          up_there before.files there (subst (λ told. MayHaveRecovered map told after.files) same on.came.1),
        );
        outside = tt;
        quiet = λ some. tt;
        few = few_there before.files there;
      }
