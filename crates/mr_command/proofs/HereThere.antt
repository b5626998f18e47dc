-- `apply-here` where the map's file is there: each way in which it goes on.
use Rattle.std.proofs.Common.{◌≡◌, ◌⊎◌, ℕ, ◌≤◌, List, [], Option, Some, None, is_some, IsSome, Result, Ok, Err, refl, sym, ap, subst, ◌∙◌, inl, inr, arith}
use Rattle.mr_outside.specs.Faults.{Rose}
use Rattle.mr_outside.specs.Files.{Files, file}
use Rattle.mr_outside.specs.State.{Shelved}
use Rattle.mr_outside.specs.Told.{OfFiles}
use Rattle.mr_record.specs.Answer.{RefusesText}
use Rattle.mr_record.specs.declared.text_fault.TextErr.{TextErr}
use Rattle.mr_record.specs.declared.text_fault.TextErr.TheVariants as texts
use Rattle.mr_record.specs.declared.text_fault.TextFault.{TextFault}
use Rattle.mr_record.specs.declared.version.Version.{Version}
use Rattle.mr_outside.specs.Bytes.{AreBytes}
use Rattle.mr_pages.specs.File.{version_of}
use Rattle.mr_pages.specs.Law.{AgreesWithFault}
use Rattle.mr_pages.specs.PageBytes.{form_by}
use Rattle.mr_batch.specs.BatchText.{batch_of_text}
use Rattle.mr_journal.specs.Recovered.{restored_in}
use Rattle.mr_journal.specs.Images.{Image}
use Rattle.mr_journal.specs.Shelves.{image_on, KeepsBeside}
use Rattle.mr_here.specs.Updated.{WhereJudged}
use Rattle.mr_here.specs.declared.error.HereErr.{HereErr}
use Rattle.mr_here.specs.declared.error.HereErr.TheVariants as errors
use Rattle.mr_plan.specs.Lines.{bad_text_line}
use Rattle.mr_plan.specs.Outcome.{Content, InPlace, IsMended, LeavesWritten, Outcome, StaysClean, Written}
use Rattle.mr_plan.specs.Plan.{Input, IsAbsent, IsInput, Plan}
use Rattle.mr_plan.specs.Say.{beside, ends, needs, say_change_here, say_text_here}
use Rattle.mr_plan.specs.Saying.{journal_of, says_missing}
use Rattle.mr_plan.specs.Untold.{MaySayApplyHere}
use Rattle.mr_plan.specs.declared.status.Status.{Status}
use Rattle.mr_plan.specs.declared.status.Status.TheVariants.{BadText, Outside}
use Rattle.mr_command.specs.Ending.{EndsPlan, GivesUpPlan, IsCalm, NoneFalls, StopsCommand, printed_of}
use Rattle.mr_command.specs.private.Here.{SaysApplied, UpdatesByText}
use Rattle.mr_command.specs.private.Inputs.{SaysText}
use Rattle.mr_command.specs.declared.ending.Ending.{Ending}
use Rattle.mr_command.specs.declared.ending.Halt.{Halt}
use Rattle.mr_command.specs.declared.ending.Halt.TheVariants as halts
use Rattle.mr_command.proofs.HereWhole.{may_say, update_ends, update_up}

pub err_is : (a b : Halt) → ◌≡◌ {A = Result Ending Halt} (Err a) (Err b) → a ≡ b
err_is a b e = cc

pub stops_update : (before after : Shelved) (r : Result (List ℕ) HereErr)
    → (r ≡ Err errors.Fault → Rose before.faults after.faults) → (halt : Halt) → SaysApplied r (Err halt)
    → StopsCommand before after halt
stops_update before after (Ok digest) fault halt says = subst (StopsCommand before after) (sym says) tt
stops_update before after (Err (errors.Map f)) fault halt says = subst (StopsCommand before after) (sym says) tt
stops_update before after (Err errors.Layer) fault halt says = subst (StopsCommand before after) (sym says) tt
stops_update before after (Err (errors.Batch f)) fault halt says = subst (StopsCommand before after) (sym says) tt
stops_update before after (Err errors.Fault) fault halt says =
    subst (StopsCommand before after) (sym (err_is halt halts.Shelf says)) (fault refl)
stops_update before after (Err errors.NoMemory) fault halt says =
    subst (StopsCommand before after) (sym (err_is halt halts.NoMemory says)) tt

not_outside : (r : Result (List ℕ) HereErr) (ending : Ending) → SaysApplied r (Ok ending) → ending.status ≡ Outside → ⊥
not_outside (Ok digest) ending says = says.settled.0
not_outside (Err (errors.Map f)) ending says = says.settled.0
not_outside (Err errors.Layer) ending says = says.settled.0
not_outside (Err (errors.Batch f)) ending says = says.settled.0
not_outside (Err errors.Fault) ending says = absurd (cc)
not_outside (Err errors.NoMemory) ending says = absurd (cc)

-- no fault was counted where map and batch were judged, so none where something is said
said_calm : (r : Result (List ℕ) HereErr) (before after : Shelved) (ending : Ending)
    → WhereJudged r (after.faults ≡ before.faults) → SaysApplied r (Ok ending) → after.faults ≡ before.faults
said_calm (Ok digest) before after ending judged says = judged
said_calm (Err (errors.Map f)) before after ending judged says = judged tt
said_calm (Err errors.Layer) before after ending judged says = judged tt
said_calm (Err (errors.Batch f)) before after ending judged says = judged tt
said_calm (Err errors.Fault) before after ending judged says = absurd (cc)
said_calm (Err errors.NoMemory) before after ending judged says = absurd (cc)

pub stops_from : (a b c : Shelved) → a.faults ≤ b.faults → (halt : Halt) → StopsCommand b c halt → StopsCommand a c halt
stops_from a b c low halts.Words stops = stops
stops_from a b c low halts.Shelf stops = omega (arith, low, stops)
stops_from a b c low halts.NoMemory stops = tt

stops_on : (a b c : Shelved) → b.faults ≤ c.faults → (halt : Halt) → StopsCommand a b halt → StopsCommand a c halt
stops_on a b c low halts.Words stops = stops
stops_on a b c low halts.Shelf stops = omega (arith, low, stops)
stops_on a b c low halts.NoMemory stops = tt

-- ---- over files that are told: behind the map, whose bytes and journal are these

module _ (hash : List ℕ → List ℕ) (map batch : List ℕ) (files : Files) (v : Version)
    (own : v ≡ version_of (restored_in map (journal_of map) files))
    (agrees : AgreesWithFault (form_by (version_of (restored_in map (journal_of map) files))) hash
    (restored_in map (journal_of map) files)) (before after : Shelved) (told : before.files ≡ Some files) where
  abbrev held : List ℕ
  held = restored_in map (journal_of map) files

  abbrev was : Image
  was = image_on map (journal_of map) files

  abbrev plan : Plan
  plan = needs batch (say_change_here hash map was)

  input_told : (input : Input) → IsInput before.files batch input → file files batch ≡ input
  input_told input is = subst (λ o. IsInput o batch input) told is

  absent_told : IsAbsent before.files batch → IsAbsent (Some files) batch
  absent_told absent = subst (λ o. IsAbsent o batch) told absent

  -- its text is none
  text_ends : (text : List ℕ) (fault : TextFault) → batch_of_text v text ≡ Err fault → (status : Status)
      (said : List ℕ) → status ≡ BadText → said ≡ bad_text_line fault → after.files ≡ Some files
      → EndsPlan (say_change_here hash map was text) (Some files) after.files status said
  text_ends text fault is status said bad printed same =
      subst (λ r. EndsPlan (say_text_here (version_of held) hash map was r) (Some files) after.files status said)
      (sym (ap (λ w. batch_of_text w text) (sym own) ∙ is)) (bad, printed, same)

  pub no_value : (error : TextErr) (text : List ℕ) → file files batch ≡ Some text → AreBytes text
      → (error ≡ error) → (refuses : (fault : TextFault) → error ≡ texts.Text fault → batch_of_text v text ≡ Err fault)
      → (ending : Ending) → SaysText error (Ok ending) → after.files ≡ Some files
      → EndsPlan plan (Some files) after.files ending.status (printed_of ending)
  no_value (texts.Text fault) text there are e refuses ending says same = (
    Some text,
    there,
    are,
    text_ends text fault (refuses fault refl) ending.status (printed_of ending) says.status says.printed same,
  )
  no_value texts.NoMemory text there are e refuses ending says same = absurd (cc)

  refuses_at : (error : TextErr) (text : List ℕ) → RefusesText error (batch_of_text v text) → (fault : TextFault)
      → error ≡ texts.Text fault → batch_of_text v text ≡ Err fault
  refuses_at error text refuses fault is = subst (λ e. RefusesText e (batch_of_text v text)) is refuses

  pub ends_text : (ending : Ending) → UpdatesByText hash map batch v before after (Ok ending)
      → EndsPlan plan (Some files) after.files ending.status (printed_of ending)
  ends_text ending (inl (inl got)) =
      (None, input_told None got.read.0, tt, (got.read.2, got.read.3, got.files ∙ told))
  ends_text ending (inl (inr none)) =
      no_value none.error none.text.items (input_told (Some none.text.items) none.read.read.0) none.read.read.1 refl
      (refuses_at none.error none.text.items none.refuses) ending none.says (none.read.files ∙ told)
  ends_text ending (inr u) =
      let rv = u.2 in (
        Some rv.0.items,
        input_told (Some rv.0.items) rv.1.read.0,
        rv.1.read.1,
        update_ends hash map batch files v own agrees u.0 rv.0.items rv.2 u.1 after (Ok ending) (rv.1.files ∙ told) u.3
            ending refl,
      )

  says_stops : (error : TextErr) (halt : Halt) → SaysText error (Err halt) → StopsCommand before after halt
  says_stops (texts.Text fault) halt says = subst (StopsCommand before after) (sym says) tt
  says_stops texts.NoMemory halt says =
      subst (StopsCommand before after) (sym (err_is halt halts.NoMemory says)) tt

  pub up_text : (halt : Halt) → UpdatesByText hash map batch v before after (Err halt)
      → StopsCommand before after halt × GivesUpPlan plan (Some files) after.files
  up_text halt (inl (inl got)) = (got.read, inl (got.files ∙ told))
  up_text halt (inl (inr none)) = (says_stops none.error halt none.says, inl (none.read.files ∙ told))
  up_text halt (inr u) =
      let rv = u.2 in (
        stops_from before u.1 after rv.1.counts.faults halt (stops_update u.1 after u.3.answer u.3.fault halt u.3.says),
        inr (
          Some rv.0.items,
          input_told (Some rv.0.items) rv.1.read.0,
          update_up hash map batch files v own agrees u.0 rv.0.items rv.2 u.1 after (Err halt) (rv.1.files ∙ told) u.3,
        ),
      )

says_settled : (error : TextErr) (ending : Ending) → SaysText error (Ok ending) → ending.status ≡ Outside → ⊥
says_settled (texts.Text fault) ending says = says.settled.0
says_settled texts.NoMemory ending says = absurd (cc)

module _ (hash : List ℕ → List ℕ) (map batch : List ℕ) (v : Version) (before after : Shelved) where
  pub outside_text : (ending : Ending) → UpdatesByText hash map batch v before after (Ok ending)
      → ending.status ≡ Outside → Rose before.faults after.faults ⊎ IsAbsent before.files batch
  outside_text ending (inl (inl got)) outside = got.read.1
  outside_text ending (inl (inr none)) outside = absurd (says_settled none.error ending none.says outside)
  outside_text ending (inr u) outside = absurd (not_outside u.3.answer ending u.3.says outside)

  pub calm_text : IsSome before.files → (ending : Ending) → UpdatesByText hash map batch v before after (Ok ending)
      → IsCalm before after (Ok ending)
  calm_text some ending (inl (inl got)) settled = absurd (settled.0 got.read.2)
  calm_text some ending (inl (inr none)) settled = none.read.read.2
  calm_text some ending (inr u) settled =
      said_calm u.3.answer u.1 after ending (u.3.quiet (ap is_some u.2.1.files ∙ some)) u.3.says ∙ u.2.1.read.2

  pub counts_text : (result : Result Ending Halt) → UpdatesByText hash map batch v before after result
      → NoneFalls before after
  counts_text result (inl (inl got)) = got.counts
  counts_text result (inl (inr none)) = none.read.counts
  counts_text result (inr u) = record {
    faults = omega (arith, u.2.1.counts.faults, u.3.counts.faults);
    reads = omega (arith, u.2.1.counts.reads, u.3.counts.reads);
  }

  -- ---- over files that are not told

  module _ (none_told : before.files ≡ None) where
    kept_none : (mid : Shelved) → mid.files ≡ before.files
        → KeepsBeside map (journal_of map) mid.files after.files → after.files ≡ None
    kept_none mid same kept = subst (λ o. KeepsBeside map (journal_of map) o after.files) (same ∙ none_told) kept

    abbrev nothing : Image
    nothing = beside [] []

    stays_none : after.files ≡ None → (made : Option Content) → StaysClean nothing made None after.files
    stays_none gone None = λ shut. gone
    stays_none gone (Some content) = tt

    wrote_none : after.files ≡ None → (w : Written) (made : Option Content)
        → w ≡ InPlace map (journal_of map) nothing made → LeavesWritten w None after.files
    wrote_none gone w made is =
        subst (λ x. LeavesWritten x None after.files) (sym is) (
          gone,
          subst (λ o. OfFiles o (λ new. IsMended nothing made (image_on map (journal_of map) new))) (sym gone) tt,
          stays_none gone made,
        )

    no_value_untold : (error : TextErr) (text : List ℕ) → AreBytes text → RefusesText error (batch_of_text v text)
        → (ending : Ending) → SaysText error (Ok ending) → after.files ≡ None
        → (said : Outcome) × MaySayApplyHere hash map batch said × (ending.status ≡ said.status)
        × (printed_of ending ≡ said.printed) × LeavesWritten said.written None after.files
    no_value_untold (texts.Text fault) text are refuses ending says gone = (
      ends BadText (bad_text_line fault),
      inr (inr (inl (v, text, are, (fault, refuses, refl)))),
      says.status,
      says.printed,
      gone,
    )
    no_value_untold texts.NoMemory text are refuses ending says gone = absurd (cc)

    pub ends_untold : (ending : Ending) → UpdatesByText hash map batch v before after (Ok ending)
        → (said : Outcome) × MaySayApplyHere hash map batch said × (ending.status ≡ said.status)
        × (printed_of ending ≡ said.printed) × LeavesWritten said.written None after.files
    ends_untold ending (inl (inl got)) =
        (says_missing batch, inr (inl refl), got.read.2, got.read.3, got.files ∙ none_told)
    ends_untold ending (inl (inr none)) =
        no_value_untold none.error none.text.items none.read.read.1 none.refuses ending none.says
        (none.read.files ∙ none_told)
    ends_untold ending (inr u) =
        let rv = u.2 in
        let m = may_say hash map batch v rv.0.items rv.1.read.1 u.0 rv.2 u.3.answer u.3.some ending u.3.says in (
          m.0,
          m.1,
          m.2,
          m.3,
          wrote_none (kept_none u.1 rv.1.files u.3.beside) m.0.written m.4.0 m.4.1,
        )

    stops_text : (error : TextErr) (halt : Halt) → SaysText error (Err halt) → StopsCommand before after halt
    stops_text (texts.Text fault) halt says = subst (StopsCommand before after) (sym says) tt
    stops_text texts.NoMemory halt says =
        subst (StopsCommand before after) (sym (err_is halt halts.NoMemory says)) tt

    pub up_untold : (halt : Halt) → UpdatesByText hash map batch v before after (Err halt)
        → StopsCommand before after halt × (after.files ≡ None)
    up_untold halt (inl (inl got)) = (got.read, got.files ∙ none_told)
    up_untold halt (inl (inr none)) = (stops_text none.error halt none.says, none.read.files ∙ none_told)
    up_untold halt (inr u) = (
      stops_from before u.1 after u.2.1.counts.faults halt (stops_update u.1 after u.3.answer u.3.fault halt u.3.says),
      kept_none u.1 u.2.1.files u.3.beside,
    )
