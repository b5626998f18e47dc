-- What a command comes to behind a step of it.
use Rattle.std.proofs.Common.{◌≡◌, ℕ, ◌+◌, ◌≤◌, ◌<◌, ◌^◌, List, length, refl, sym, ap, subst, ◌∙◌, inl, inr, arith}
use Rattle.std.specs.Prelude.{Option, Some, None, MatchOption, IfOk, IsErrAnd, ⊤, ◌⊎◌, Result, Ok, Err}
use Rattle.std.specs.Global.{Vec}
use Rattle.mr_outside.specs.Causes.{ShelfCauses}
use Rattle.mr_outside.specs.Faults.{Rose}
use Rattle.mr_outside.specs.Files.{Files, file, with_file}
use Rattle.mr_outside.specs.Reading.{piece_count}
use Rattle.mr_outside.specs.State.{Shelved}
use Rattle.mr_outside.specs.Told.{OfFile, MayMiss}
use Rattle.mr_outside.specs.Writing.{IsChanged}
use Rattle.mr_outside.specs.declared.shelf.ShelfErr.{ShelfErr}
use Rattle.mr_outside.specs.declared.shelf.ShelfErr.TheVariants as shelf
use Rattle.mr_outside.specs.Bytes.{AreBytes}
use Rattle.mr_record.specs.declared.version.Version.{Version}
use Rattle.mr_record.specs.declared.version.Version.TheVariants.{One, Two}
use Rattle.mr_tree.specs.WellFormed.{WellFormed, HasLayers}
use Rattle.mr_tree.specs.declared.tree.Tree.{Tree}
use Rattle.mr_pages.specs.Page.{Form}
use Rattle.mr_pages.specs.File.{form_at, version_of}
use Rattle.mr_pages.specs.PageBytes.{form_by}
use Rattle.mr_pages.specs.Law.{AgreesWithFault, IsMapFile, map_in}
use Rattle.mr_pages.specs.Saved.{saved, MayStand, LeavesFile, SaveCauses}
use Rattle.mr_pages.specs.Opening.{AnswersMap, FailsWithoutFault, MapCauses, OrFails, TellsBytes}
use Rattle.mr_pages.specs.declared.error.MapErr.{MapErr}
use Rattle.mr_pages.specs.declared.error.MapErr.TheVariants as errors
use Rattle.mr_pages.specs.declared.rule.MapFault.{MapFault}
use Rattle.mr_command.specs.Ending.{IsEndingOf, IsEndingOrHalt, RunsPlan, Came, StopsCommand, EndsPlan, GivesUpPlan, AreJudged, BlamesOutside, IsCalm, NoneFalls, IsWell, WasFound, halt_of, printed_of}
use Rattle.mr_command.specs.private.Steps.{SaysMissing, IsJudged, GoesOn, IsAsRead, IsUnread, Read, ReadsInput, ReadsPages, HasReadMap, OpensMapOrEnds, SavesFile, SaysRefusal}
use Rattle.mr_plan.specs.Found.{Found, ShowsMap, bad_map_line}
use Rattle.mr_plan.specs.Outcome.{Outcome, Content, Nothing, File, map_of, IsLaidOut, LeavesWritten, MayLeave}
use Rattle.mr_plan.specs.Plan.{Plan, comes, opens, Input, IsInput, IsAbsent, LacksInput}
use Rattle.mr_plan.specs.Say.{ends, needs, needs_map, given_map, says_missing}
use Rattle.mr_command.specs.declared.ending.Ending.{Ending}
use Rattle.mr_command.specs.declared.ending.Halt.{Halt}
use Rattle.mr_command.specs.declared.ending.Halt.TheVariants as halts
use Rattle.mr_pages.specs.declared.opening.Opened.{Opened}
use Rattle.mr_plan.specs.declared.status.Status.TheVariants.{BadMap, Outside}
use Rattle.mr_command.proofs.Counting.{AllowsFrom, TakenFrom, map_taken, few_behind, few_stopped, few_none, few_found, once_of}
use Rattle.mr_pages.proofs.Answered.{form_by_is}
use Rattle.mr_pages.proofs.SavedStands.{saved_stands}

-- a step that left the files and the count of faults as they were
pub record IsStep (before between : Shelved) : Type 0 where
  pub counts : NoneFalls before between
  pub files : between.files ≡ before.files
  pub faults : between.faults ≡ before.faults

stops_after : (before between after : Shelved) (halt : Halt) → IsStep before between → StopsCommand between after halt
    → StopsCommand before after halt
stops_after before between after halts.Words step stops = stops
stops_after before between after halts.Shelf step stops = subst (λ n. Rose n after.faults) step.faults stops
stops_after before between after halts.NoMemory step stops = stops

-- ---- what a plan opens

pub judged_needs : (name : List ℕ) (said : List ℕ → Outcome) (told : Option Files)
    → AreJudged (needs name (λ bytes. comes (said bytes))) told
judged_needs name said told None is = tt
judged_needs name said told (Some bytes) is = tt

judged_given : (next : Opened → Plan) (told : Option Files) → GoesOn next told → (found : Found)
    → AreJudged (given_map next found) told
judged_given next told goes (Ok map) = goes map
judged_given next told goes (Err fault) = tt

pub judged_map : (hash : List ℕ → List ℕ) (name : List ℕ) (next : Opened → Plan)
    (told : Option Files)
    → IsJudged hash told name → GoesOn next told → AreJudged (needs_map hash name next) told
judged_map hash name next told judged goes None is = tt
judged_map hash name next told judged goes (Some bytes) is =
    (judged bytes is, λ found shown. judged_given next told goes found)

-- ---- behind a file that was read

-- what came of the rest came of the whole
module _ (name : List ℕ) (next : List ℕ → Plan) (bytes : List ℕ) (before between after : Shelved)
    (step : IsStep before between) (once : TakenFrom before.files name next before.reads between.reads)
    (input : IsInput before.files name (Some bytes)) (are : AreBytes bytes)
    (judged : AreJudged (needs name next) before.files) where
  came_on : (result : Result Ending Halt) → Came (next bytes) between after result
      → Came (needs name next) before after result
  came_on (Ok ending) came = (
    Some bytes,
    input,
    are,
    subst (λ files. EndsPlan (next bytes) files after.files ending.status (printed_of ending)) step.files came,
  )
  came_on (Err halt) came = (
    stops_after before between after halt step came.0,
    inr (Some bytes, input, subst (λ files. GivesUpPlan (next bytes) files after.files) step.files came.1),
  )

  blames_on : (result : Result Ending Halt) → BlamesOutside (next bytes) between after result
      → BlamesOutside (needs name next) before after result
  blames_on (Ok ending) blames = λ outside. elim (blames outside) [
    | inl rose ↦ inl (subst (λ n. Rose n after.faults) step.faults rose)
    | inr lacks ↦ inr (inr (Some bytes, input, subst (LacksInput (next bytes)) step.files lacks))
  ]
  blames_on (Err halt) blames = tt

  calm_on : (result : Result Ending Halt) → IsCalm between after result → IsCalm before after result
  calm_on (Ok ending) calm = λ settled. calm settled ∙ step.faults
  calm_on (Err halt) calm = tt

  pub comes_on : (result : Result Ending Halt) → RunsPlan (next bytes) between after result
      → RunsPlan (needs name next) before after result
  comes_on result on = record {
    counts = record {
      faults = omega (arith, step.counts.faults, on.counts.faults);
      reads = omega (arith, step.counts.reads, on.counts.reads);
    };
    judged = judged;
    came = came_on result on.came;
    outside = blames_on result on.outside;
    quiet = calm_on result on.quiet;
    few = few_behind before.files name next bytes before.reads between.reads after.reads input once
        (subst (λ told. AllowsFrom told (next bytes) between.reads after.reads) step.files on.few);
  }

-- an outcome that writes no file, at once
pub comes_at_once : (said : Outcome) (at : Shelved) (ending : Ending) → said.written ≡ Nothing → IsEndingOf said ending
    → RunsPlan (comes said) at at (Ok ending)
comes_at_once said at ending writes gives = record {
  counts = record { faults = omega arith; reads = omega arith };
  judged = tt;
  came = (
    gives.status,
    gives.printed,
    subst (λ w. LeavesWritten w at.files at.files) (sym writes) refl,
  );
  outside = λ e. absurd (gives.settled.0 e);
  quiet = λ settled. refl;
  few = few_none at.files said at.reads at.reads refl;
}

-- the same where memory may have run out
pub comes_given : (said : Outcome) (at : Shelved) (result : Result Ending Halt) → said.written ≡ Nothing
    → IsEndingOrHalt said result → RunsPlan (comes said) at at result
comes_given said at (Ok ending) writes gives = comes_at_once said at ending writes gives
comes_given said at (Err halt) writes is = record {
  counts = record { faults = omega arith; reads = omega arith };
  judged = tt;
  came = (
    subst (StopsCommand at at) (sym is) tt,
    subst (λ w. MayLeave w at.files at.files) (sym writes) refl,
  );
  outside = tt;
  quiet = tt;
  few = few_none at.files said at.reads at.reads refl;
}

-- a refusal for want of memory
pub out_of_memory : (said : Outcome) (result : Result Ending Halt) → IsErrAnd result (λ h. h ≡ halts.NoMemory)
    → IsEndingOrHalt said result
out_of_memory said (Ok ending) is = absurd is
out_of_memory said (Err halt) is = is

-- ---- behind a file that was read as a map

-- what came of a map or a fault that was found came of the bytes
comes_found : (v : Version) (hash : List ℕ → List ℕ) (bytes : List ℕ) (next : Found → Plan) (found : Found)
    (before after : Shelved) (result : Result Ending Halt) → AreJudged (opens v hash bytes next) before.files
    → WasFound before.files v hash bytes found → IsWell found
    → RunsPlan (next found) before after result → RunsPlan (opens v hash bytes next) before after result
comes_found v hash bytes next found before after (Ok ending) judged is well on = record {
  counts = on.counts;
  judged = judged;
  came = (found, is, well, on.came);
  outside = λ outside. elim (on.outside outside) [ inl rose ↦ inl rose | inr lacks ↦ inr (found, is.0, lacks) ];
  quiet = on.quiet;
  few = few_found before.files v hash bytes next found before.reads after.reads is.0 on.few;
}
comes_found v hash bytes next found before after (Err halt) judged is well on = record {
  counts = on.counts;
  judged = judged;
  came = (on.came.0, (found, is.0, on.came.1));
  outside = tt;
  quiet = tt;
  few = few_found before.files v hash bytes next found before.reads after.reads is.0 on.few;
}

-- the bytes of a file that was opened, and what was found in them
record Holds (hash : List ℕ → List ℕ) (told : Option Files) (name : List ℕ)
    (found : Found) : Type 0 where
  pub bytes : List ℕ
  pub input : IsInput told name (Some bytes)
  pub are : AreBytes bytes
  pub is : WasFound told (version_of bytes) hash bytes found

comes_opened : (hash : List ℕ → List ℕ) (name : List ℕ) (next : Opened → Plan)
    (before between after : Shelved)
    (found : Found) (result : Result Ending Halt) → IsStep before between → ReadsPages name before between
    → IsJudged hash before.files name → GoesOn next before.files → Holds hash before.files name found
    → IsWell found
    → RunsPlan (given_map next found) between after result →
    RunsPlan (needs_map hash name next) before after result
comes_opened hash name next before between after found result step once judged goes holds well on =
    comes_on name (λ bytes. opens (version_of bytes) hash bytes (given_map next)) holds.bytes before between after step
    (map_taken before.files name hash (given_map next) before.reads between.reads once) holds.input holds.are
    (judged_map hash name next before.files judged goes) result
    (comes_found (version_of holds.bytes) hash holds.bytes (given_map next) found between after result
    (subst (AreJudged (opens (version_of holds.bytes) hash holds.bytes (given_map next))) (sym step.files)
    (judged_map hash name next before.files judged goes (Some holds.bytes) holds.input))
    (subst (λ files. WasFound files (version_of holds.bytes) hash holds.bytes found) (sym step.files) holds.is) well on)

pub comes_map : (hash : List ℕ → List ℕ) (name : List ℕ) (next : Opened → Plan)
    (before between after : Shelved)
    (map : Opened) (result : Result Ending Halt) → HasReadMap hash name before between map →
    GoesOn next before.files
    → RunsPlan (next map) between after result → RunsPlan (needs_map hash name next) before after result
comes_map hash name next before between after map result holds goes on =
    comes_opened hash name next before between after (Ok map) result
    (record { counts = holds.counts; files = holds.files; faults = holds.quiet }) holds.once holds.judged goes
    (record { bytes = holds.bytes; input = holds.input; are = holds.are; is = holds.found }) (holds.well, holds.low) on

-- the same where the file stands for no map
comes_bad : (hash : List ℕ → List ℕ) (name : List ℕ) (next : Opened → Plan)
    (before after : Shelved)
    (fault : MapFault) (ending : Ending) → IsStep before after → ReadsPages name before after
    → IsJudged hash before.files name → GoesOn next before.files →
    Holds hash before.files name (Err fault)
    → IsEndingOf (ends BadMap (bad_map_line fault)) ending →
    RunsPlan (needs_map hash name next) before after (Ok ending)
comes_bad hash name next before after fault ending step once judged goes holds gives =
    comes_opened hash name next before after after (Err fault) (Ok ending) step once judged goes holds tt
    (comes_at_once (ends BadMap (bad_map_line fault)) after ending refl gives)

-- where it is missing
pub misses : (told : Option Files) (name : List ℕ) (before after : ℕ) → MayMiss told name before after
    → IsInput told name None × (Rose before after ⊎ IsAbsent told name)
misses None name before after miss = (tt, inl miss)
misses (Some files) name before after miss = (miss, inr miss)

input_is : (told : Option Files) (name : List ℕ) (bytes : List ℕ) → AreBytes bytes
    → OfFile told name ⊥ (λ held. bytes ≡ held) → IsInput told name (Some bytes)
input_is None name bytes are is = are
input_is (Some files) name bytes are is = by_found (file files name) is
  where
    by_found : (o : Option (List ℕ)) → MatchOption o ⊥ (λ held. bytes ≡ held) → o ≡ Some bytes
    by_found None is = absurd is
    by_found (Some held) is = ap (λ b. Some b) (sym is)

-- what is said of a file that is missing
pub missed_so : (name : List ℕ) (before after : Shelved) (came : Result Ending Halt)
    → IsInput before.files name None × (Rose before.faults after.faults ⊎ IsAbsent before.files name)
    → SaysMissing name came → IsUnread name before after came
missed_so name before after (Ok ending) missing says = (missing.0, missing.1, says.0, says.1)
missed_so name before after (Err halt) missing says = subst (StopsCommand before after) (sym says) tt

-- what was read, by the answer of the call that read it
module _ (name : List ℕ) (before after : Shelved) (files : after.files ≡ before.files)
    (more : before.reads ≤ after.reads)
    (pieces : OfFile before.files name (after.reads ≡ before.reads)
    (λ bytes. after.reads ≤ before.reads + piece_count (length bytes))) where
  reads_so : (result : Result (Vec ℕ) (Result Ending Halt)) → before.faults ≤ after.faults
      → Read name before after result → ReadsInput name before after result
  reads_so result faults read = record {
    counts = record { faults = faults; reads = more };
    files = files;
    read = read;
    once = once_of before.files name before.reads after.reads pieces;
  }

  pub reads_of : (read : Result (Vec ℕ) ShelfErr) (result : Result (Vec ℕ) (Result Ending Halt))
      → IfOk read (λ v. OfFile before.files name ⊥ (λ bytes. v.items ≡ bytes)) → ShelfCauses name before after read
      → IsAsRead name read result → ReadsInput name before after result
  reads_of (Ok bytes) result held causes is =
      subst (ReadsInput name before after) (sym is.0)
      (reads_so (Ok bytes) causes.faults (input_is before.files name bytes.items is.1 held, is.1, causes.quiet))
  reads_of (Err shelf.Missing) (Ok bytes) held causes is = absurd is
  reads_of (Err shelf.Missing) (Err came) held causes is =
      reads_so (Err came) causes.faults
      (missed_so name before after came (misses before.files name before.faults after.faults (causes.missing refl)) is)
  reads_of (Err shelf.Fault) result held causes is =
      subst (ReadsInput name before after) (sym is) (reads_so (Err (Err halts.Shelf)) causes.faults (causes.fault refl))
  reads_of (Err shelf.NoMemory) result held causes is =
      subst (ReadsInput name before after) (sym is) (reads_so (Err (Err halts.NoMemory)) causes.faults tt)

pub comes_missing : (name : List ℕ) (next : List ℕ → Plan) (before after : Shelved) (ending : Ending)
    → NoneFalls before after → TakenFrom before.files name next before.reads after.reads
    → after.files ≡ before.files
    → AreJudged (needs name next) before.files
    → IsInput before.files name None × (Rose before.faults after.faults ⊎ IsAbsent before.files name)
    → ending.status ≡ Outside → printed_of ending ≡ (says_missing name).printed
    → RunsPlan (needs name next) before after (Ok ending)
comes_missing name next before after ending counts once files judged misses status printed = record {
  counts = counts;
  judged = judged;
  came = (None, misses.0, tt, (status, printed, files));
  outside = λ e. elim misses.1 [ inl rose ↦ inl rose | inr absent ↦ inr (inl absent) ];
  quiet = λ settled. absurd (settled.0 status);
  few = few_stopped before.files name next before.reads after.reads once;
}

-- and where the command stopped
pub comes_halted : (name : List ℕ) (next : List ℕ → Plan) (before after : Shelved) (halt : Halt)
    → NoneFalls before after → TakenFrom before.files name next before.reads after.reads
    → after.files ≡ before.files
    → AreJudged (needs name next) before.files → StopsCommand before after halt
    → RunsPlan (needs name next) before after (Err halt)
comes_halted name next before after halt counts once files judged stops = record {
  counts = counts;
  judged = judged;
  came = (stops, inl files);
  outside = tt;
  quiet = tt;
  few = few_stopped before.files name next before.reads after.reads once;
}

-- ---- what opening a file answers

-- the bytes of a file that is told, read in their version, give this; of one that is not told some bytes do
abbrev pub SomeIn : (List ℕ → List ℕ) → Result Opened MapErr → Type 0
SomeIn hash result =
    (bytes : List ℕ) × AreBytes bytes × AnswersMap (form_at bytes) hash bytes result

-- a clause of the call that opens a file, at what it answered
abbrev pub Answered : (List ℕ → List ℕ) → List ℕ → Shelved → Shelved → Result Opened MapErr → Type 0
Answered hash name before after result =
    OfFile before.files name (FailsWithoutFault result)
    (λ bytes. TellsBytes (form_at bytes) hash bytes result)
    × SomeIn hash result
    × MapCauses name before after result
    × (after.files ≡ before.files)
    × (before.reads ≤ after.reads)
    × ReadsPages name before after

pub version_by : (v : Version) → (form_by v).version ≡ v
version_by One = refl
version_by Two = refl

shown_by : (v : Version) (hash : List ℕ → List ℕ) (bytes : List ℕ) (map : Opened)
    → AnswersMap (form_by v) hash bytes (Ok map) → ShowsMap v hash bytes (Ok map)
shown_by v hash bytes map a = (a.0 ∙ version_by v, a.1)

-- the answer that is wanted is that map
wanted : (v : Version) (form : Form) (map : Opened) (result : Result Opened MapErr) → form.version ≡ v
    → map.version ≡ v → OrFails result (Ok (record { tree = map.tree; version = form.version; batch = map.batch }))
    → OrFails result (Ok map)
wanted v form map result is has =
    let same = is ∙ sym has in
    subst (λ w. OrFails result (Ok (record { tree = map.tree; version = w; batch = map.batch }))) same

told_bytes : (hash : List ℕ → List ℕ) (files : Files) (name : List ℕ) (found : Found)
    (result : Result Opened MapErr) → (FailsWithoutFault result → ⊥)
    → ((bytes : List ℕ) → AnswersMap (form_at bytes) hash bytes result → ShowsMap (version_of bytes) hash bytes
    found)
    → ((map : Opened) → OrFails result (Ok map) → found ≡ Ok map) → (input : Input)
    → file files name ≡ input
    → MatchOption input (FailsWithoutFault result) (λ bytes. TellsBytes (form_at bytes) hash bytes result)
    → Holds hash (Some files) name found
told_bytes hash files name found result not shows only None e is = absurd (not is)
told_bytes hash files name found result not shows only (Some bytes) e is =
    let v = version_of bytes in
    record {
      bytes = bytes;
      input = e;
      are = is.are;
      is = (
        shows bytes is.answers,
        λ map stands. only map (wanted v (form_by v) map result (version_by v) stands.0
            (is.map map.tree map.batch stands.1)),
      );
    }

holds_found : (hash : List ℕ → List ℕ) (told : Option Files) (name : List ℕ)
    (found : Found) (result : Result Opened MapErr) → (FailsWithoutFault result → ⊥)
    → ((bytes : List ℕ) → AnswersMap (form_at bytes) hash bytes result → ShowsMap (version_of bytes) hash bytes
    found)
    → ((map : Opened) → OrFails result (Ok map) → found ≡ Ok map)
    → OfFile told name (FailsWithoutFault result) (λ bytes. TellsBytes (form_at bytes) hash bytes result)
    → SomeIn hash result → Holds hash told name found
holds_found hash None name found result not shows only exact some = record
    { bytes = some.0; input = some.1; are = some.1; is = (shows some.0 some.2, tt) }
holds_found hash (Some files) name found result not shows only exact some =
    told_bytes hash files name found result not shows only (file files name) refl exact

-- the one answer, as what is found
pub found_only : (map other : Opened) → OrFails (Ok map) (Ok other) → ◌≡◌ {A = Found} (Ok map) (Ok other)
found_only map other (inl e) = cc
found_only map other (inr fails) = absurd fails

fault_only : (fault : MapFault) (map : Opened) → OrFails (Err (errors.Map fault)) (Ok map)
    → ◌≡◌ {A = Found} (Err fault) (Ok map)
fault_only fault map (inl e) = absurd (cc)
fault_only fault map (inr fails) = absurd fails

no_fault_rose : (before after : Shelved) (name : List ℕ) (result : Result Opened MapErr)
    → (FailsWithoutFault result → ⊥) → MapCauses name before after result → after.faults ≡ before.faults
no_fault_rose before after name result not causes = elim causes.quiet
    [ inl same ↦ same | inr fails ↦ absurd (not fails) ]

-- told or not
pub is_judged : (hash : List ℕ → List ℕ) (told : Option Files) (name : List ℕ)
    → OfFile told name ⊤ (λ bytes. AgreesWithFault (form_at bytes) hash bytes)
    → ((bytes : List ℕ) → AreBytes bytes → AgreesWithFault (form_at bytes) hash bytes)
    → IsJudged hash told name
is_judged hash None name agrees law bytes is = law bytes is
is_judged hash (Some files) name agrees law bytes is =
    subst (λ input. MatchOption input ⊤ (λ bytes. AgreesWithFault (form_at bytes) hash bytes)) is agrees

halt_is : (halt other : Halt) → ◌≡◌ {A = Result Ending Halt} (Err halt) (Err other) → halt ≡ other
halt_is halt other is = cc

counts_of : (hash : List ℕ → List ℕ) (name : List ℕ) (before after : Shelved)
    (result : Result Opened MapErr) → Answered hash name before after result → NoneFalls before after
counts_of hash name before after result on = record { faults = on.2.faults; reads = on.4 }

module _ (hash : List ℕ → List ℕ) (name : List ℕ) (before after : Shelved)
    (judged : IsJudged hash before.files name) where
  pub opens_map : (map : Opened) → Answered hash name before after (Ok map) → WellFormed map.tree
      → HasLayers map.version map.tree → map.batch < 2 ^ 64 → HasReadMap hash name before after map
  opens_map map on well layers low =
      let holds = holds_found hash before.files name (Ok map) (Ok map) (λ f. f)
      (λ bytes a. shown_by (version_of bytes) hash bytes map a) (found_only map) on.0 on.1 in
      record {
        counts = counts_of hash name before after (Ok map) on;
        files = on.3;
        quiet = no_fault_rose before after name (Ok map) (λ f. f) on.2;
        once = on.5;
        bytes = holds.bytes;
        input = holds.input;
        are = holds.are;
        judged = judged;
        found = holds.is;
        well = well;
        layers = layers;
        low = low;
      }

  pub opens_bad : (fault : MapFault) (ending : Ending) →
      Answered hash name before after (Err (errors.Map fault))
      → IsEndingOf (ends BadMap (bad_map_line fault)) ending → OpensMapOrEnds hash name before after
      (Err (Ok ending))
  opens_bad fault ending on gives next goes =
      comes_bad hash name next before after fault ending
      (record {
        counts = counts_of hash name before after (Err (errors.Map fault)) on;
        files = on.3;
        faults = no_fault_rose before after name (Err (errors.Map fault)) (λ f. f) on.2;
      }) on.5 judged goes
      (holds_found hash before.files name (Err fault) (Err (errors.Map fault)) (λ f. f) (λ bytes a. a)
      (fault_only fault) on.0 on.1) gives

  pub opens_missing : (ending : Ending) → Answered hash name before after (Err errors.Missing)
      → ending.status ≡ Outside → printed_of ending ≡ (says_missing name).printed
      → OpensMapOrEnds hash name before after (Err (Ok ending))
  opens_missing ending on status printed next goes =
      comes_missing name (λ bytes. opens (version_of bytes) hash bytes (given_map next)) before after ending
      (counts_of hash name before after (Err errors.Missing) on)
      (map_taken before.files name hash (given_map next) before.reads after.reads on.5) on.3
      (judged_map hash name next before.files judged goes)
      (misses before.files name before.faults after.faults (on.2.missing refl)) status printed

  pub opens_halted : (halt : Halt) → NoneFalls before after
      → ReadsPages name before after → after.files ≡ before.files → StopsCommand before after halt
      → OpensMapOrEnds hash name before after (Err (Err halt))
  opens_halted halt counts few files stops next goes =
      comes_halted name (λ bytes. opens (version_of bytes) hash bytes (given_map next)) before after halt counts
      (map_taken before.files name hash (given_map next) before.reads after.reads few) files
      (judged_map hash name next before.files judged goes) stops

  -- by its refusal
  pub opens_refused : (error : MapErr) (ending : Ending) → Answered hash name before after (Err error)
      → SaysRefusal name error (Ok ending) → OpensMapOrEnds hash name before after (Err (Ok ending))
  opens_refused (errors.Map fault) ending on says = opens_bad fault ending on says
  opens_refused errors.Missing ending on says = opens_missing ending on says.0 says.1
  opens_refused errors.Fault ending on says = absurd (cc)
  opens_refused errors.NoMemory ending on says = absurd (cc)

  -- memory ran out, or the shelf failed
  out : (error : MapErr) (halt : Halt) → Answered hash name before after (Err error) → StopsCommand before
      after halt
      → OpensMapOrEnds hash name before after (Err (Err halt))
  out error halt on stops =
      opens_halted halt (counts_of hash name before after (Err error) on) on.5 on.3 stops

  pub opens_given_up : (error : MapErr) (halt : Halt) → Answered hash name before after (Err error)
      → SaysRefusal name error (Err halt) → OpensMapOrEnds hash name before after (Err (Err halt))
  opens_given_up (errors.Map fault) halt on says =
      out (errors.Map fault) halt on (subst (StopsCommand before after) (sym says) tt)
  opens_given_up errors.Missing halt on says = out errors.Missing halt on
      (subst (StopsCommand before after) (sym says) tt)
  opens_given_up errors.Fault halt on says =
      out errors.Fault halt on (subst (StopsCommand before after) (sym (halt_is halt halts.Shelf says))
      (on.2.fault refl))
  opens_given_up errors.NoMemory halt on says =
      out errors.NoMemory halt on (subst (StopsCommand before after) (sym (halt_is halt halts.NoMemory says)) tt)

  -- what the command comes to without the map
  pub opens_unopened : (error : MapErr) (came : Result Ending Halt)
      → Answered hash name before after (Err error) → SaysRefusal name error came
      → OpensMapOrEnds hash name before after (Err came)
  opens_unopened error (Ok ending) on says = opens_refused error ending on says
  opens_unopened error (Err halt) on says = opens_given_up error halt on says

-- a refusal that is handed on
pub halted_is : {A E : Type 0} (result : Result A E) (halt : E) → IsErrAnd result (λ h. h ≡ halt)
    → result ≡ Err halt
halted_is (Ok value) halt is = absurd is
halted_is (Err h) halt is = ap (λ x. Err x) is

-- ---- behind a file that was written

pub comes_saved : (name : List ℕ) (content : Content) (said : Outcome) (before after : Shelved) (ending : Ending)
    (done : Unit) → said.written ≡ File name content → IsEndingOf said ending
    → SavesFile name content before after (Ok done) → RunsPlan (comes said) before after (Ok ending)
comes_saved name content said before after ending done writes gives saves = record {
  counts = saves.counts;
  judged = tt;
  came = (
    gives.status,
    gives.printed,
    subst (λ w. LeavesWritten w before.files after.files) (sym writes) saves.saved.0,
  );
  outside = λ e. absurd (gives.settled.0 e);
  quiet = λ settled. saves.saved.1;
  few = few_none before.files said before.reads after.reads saves.unread;
}

-- memory ran out behind it
pub comes_kept : (name : List ℕ) (content : Content) (said : Outcome) (before after : Shelved) (done : Unit)
    → said.written ≡ File name content → SavesFile name content before after (Ok done)
    → RunsPlan (comes said) before after (Err halts.NoMemory)
comes_kept name content said before after done writes saves = record {
  counts = saves.counts;
  judged = tt;
  came = (
    tt,
    subst (λ w. MayLeave w before.files after.files) (sym writes)
        (inr (saves.saved.0.0, inr saves.saved.0.1, saves.saved.0.2)),
  );
  outside = tt;
  quiet = tt;
  few = few_none before.files said before.reads after.reads saves.unread;
}

-- the ending over it has this status and text, or memory ran out
pub comes_told : (name : List ℕ) (content : Content) (said told : Outcome) (before after : Shelved) (done : Unit)
    (result : Result Ending Halt) → said.written ≡ File name content → told.status ≡ said.status
    → told.printed ≡ said.printed → IsEndingOrHalt told result → SavesFile name content before after (Ok done)
    → RunsPlan (comes said) before after result
comes_told name content said told before after done (Ok ending) writes status printed gives saves =
    comes_saved name content said before after ending done writes
    (record { status = gives.status ∙ status; printed = gives.printed ∙ printed; settled = gives.settled }) saves
comes_told name content said told before after done (Err halt) writes status printed gives saves =
    subst (λ h. RunsPlan (comes said) before after (Err h)) (sym gives)
    (comes_kept name content said before after done writes saves)

pub comes_unsaved : (name : List ℕ) (content : Content) (said : Outcome) (before after : Shelved) (halt : Halt)
    → said.written ≡ File name content → SavesFile name content before after (Err halt)
    → RunsPlan (comes said) before after (Err halt)
comes_unsaved name content said before after halt writes saves = record {
  counts = saves.counts;
  judged = tt;
  came = (saves.saved.0, subst (λ w. MayLeave w before.files after.files) (sym writes) saves.saved.1);
  outside = tt;
  quiet = tt;
  few = few_none before.files said before.reads after.reads saves.unread;
}

-- each digest has 32 bytes
abbrev pub IsSized : (List ℕ → List ℕ) → Type 0
IsSized hash = (xs : List ℕ) → length (hash xs) ≡ 32

-- what a save leaves
module _ (v : Version) (hash : List ℕ → List ℕ) (sized : IsSized hash) (name : List ℕ) (tree : Tree) (batch : ℕ)
    (before after : Shelved) (well : WellFormed tree) (layers : HasLayers v tree) (low : batch < 2 ^ 64) where
  is_map : IsMapFile hash (saved (form_by v) hash tree batch) (map_in v tree batch)
  is_map =
      let here = subst (λ u. HasLayers u tree) (sym (version_by v)) layers in
      record {
        well = well;
        layers = here;
        stands = saved_stands (form_by v) (form_by_is v) hash sized tree batch well here low;
      }

  laid_out : (bytes : List ℕ) → bytes ≡ saved (form_by v) hash tree batch → IsLaidOut v hash tree batch bytes
  laid_out bytes laid = record {
    laid = laid;
    stands = subst (λ b. IsMapFile hash b (map_in v tree batch)) (sym laid) is_map;
  }

  pub saved_so : (done : Unit) → before.faults ≤ after.faults → after.reads ≡ before.reads
      → after.faults ≡ before.faults
      → IsChanged (with_file name) (saved (form_by v) hash tree batch) before.files after.files
      → SavesFile name (map_of v hash tree batch) before after (Ok done)
  saved_so done faults same quiet changed = record {
    counts = record { faults = faults; reads = omega (arith, same) };
    unread = same;
    saved = (
      (saved (form_by v) hash tree batch, laid_out (saved (form_by v) hash tree batch) refl, changed),
      quiet,
    );
  }

  unsaved : (halt : Halt) → before.faults ≤ after.faults → after.reads ≡ before.reads → StopsCommand before after halt
      → LeavesFile (MayStand (form_by v) hash tree batch) name before.files after.files
      → SavesFile name (map_of v hash tree batch) before after (Err halt)
  unsaved halt faults same stops left = record {
    counts = record { faults = faults; reads = omega (arith, same) };
    unread = same;
    saved = (
      stops,
      elim left [
        | inl untouched ↦ inl untouched
        | inr held ↦ inr (
          held.0,
          elim held.1 [
            | inl none ↦ inl none
            | inr whole ↦ inr (laid_out held.0 whole)
          ],
          held.2,
        )
      ],
    );
  }

  -- by why the shelf refused
  pub unsaved_by : {A : Type 0} (error : ShelfErr) → after.reads ≡ before.reads
      → SaveCauses {A = A} before after (Err error)
      → LeavesFile (MayStand (form_by v) hash tree batch) name before.files after.files
      → SavesFile name (map_of v hash tree batch) before after (Err (halt_of error))
  unsaved_by shelf.Missing same causes left = unsaved halts.Shelf causes.faults same (causes.missing refl) left
  unsaved_by shelf.Fault same causes left = unsaved halts.Shelf causes.faults same (causes.fault refl) left
  unsaved_by shelf.NoMemory same causes left = unsaved halts.NoMemory causes.faults same tt left
