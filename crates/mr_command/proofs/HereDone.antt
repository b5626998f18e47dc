-- `apply-here` where the map's file is there: all of it.
use Rattle.std.proofs.Common.{◌≡◌, ◌⊎◌, ℕ, ◌+◌, ◌≤◌, List, Option, Some, None, is_some, IsSome, Result, Ok, Err, refl, sym, ap, subst, ◌∙◌, inl, inr, arith}
use Rattle.std.specs.Prelude.{⊤}
use Rattle.mr_outside.specs.Faults.{Rose}
use Rattle.mr_outside.specs.Files.{Files, file}
use Rattle.mr_outside.specs.State.{Shelved}
use Rattle.mr_outside.specs.Told.{OfFile, OfFiles}
use Rattle.mr_record.specs.declared.version.Version.{Version}
use Rattle.mr_outside.specs.Bytes.{AreBytes}
use Rattle.mr_pages.specs.File.{version_of}
use Rattle.mr_pages.specs.Law.{AgreesWithFault}
use Rattle.mr_pages.specs.PageBytes.{form_by}
use Rattle.mr_journal.specs.Images.{Image}
use Rattle.mr_journal.specs.Recovered.{restored_in}
use Rattle.mr_journal.specs.Shelves.{bytes_or_none, image_on, or_none}
use Rattle.mr_here.specs.OnFiles.{TellsVersion}
use Rattle.mr_plan.specs.Outcome.{Outcome}
use Rattle.mr_plan.specs.Plan.{IsAbsent, LacksInput, Plan}
use Rattle.mr_plan.specs.Say.{beside, given, needs, say_apply_here, say_change_here}
use Rattle.mr_plan.specs.Saying.{journal_of, says_missing}
use Rattle.mr_plan.specs.Untold.{MaySayApplyHere}
use Rattle.mr_plan.specs.declared.status.Status.TheVariants.{Outside}
use Rattle.mr_command.specs.Counting.{AllowsReads}
use Rattle.mr_command.specs.Ending.{ComesLoudly, EndsAsSaid, EndsPlan, GivesUpAsSaid, GivesUpPlan, IsCalm, NoneFalls, StopsCommand, printed_of}
use Rattle.mr_command.specs.private.Here.{KnowsVersion, UpdatesThere}
use Rattle.mr_command.specs.declared.ending.Ending.{Ending}
use Rattle.mr_command.specs.declared.ending.Halt.{Halt}
use Rattle.mr_command.proofs.HereAll.{behind, held_bytes, judged_here}
use Rattle.mr_command.proofs.HereThere.{calm_text, counts_text, ends_text, ends_untold, err_is, outside_text, stops_from, up_text, up_untold}
use Rattle.mr_command.proofs.InPlaceEnds.{found_in}

module _ (hash : List ℕ → List ℕ)
    (agree : (w : Version) (bytes : List ℕ) → AreBytes bytes → AgreesWithFault (form_by w) hash bytes)
    (map batch : List ℕ) (before mid : Shelved) (same : mid.files ≡ before.files) (faults : before.faults ≤ mid.faults)
    (reads : mid.reads ≡ before.reads) (all : (q : List ℕ) → OfFile before.files q ⊤ AreBytes)
    (there : OfFile before.files map ⊥ AreBytes) (still : mid.faults ≡ before.faults) (after : Shelved) where
  abbrev plan : Plan
  plan = say_apply_here hash map batch

  abbrev may : Outcome → Type 0
  may = MaySayApplyHere hash map batch

  abbrev rest : Image → Plan
  rest was = needs batch (say_change_here hash map was)

  -- ---- over files that are told

  module _ (files : Files) (is : before.files ≡ Some files) where
    abbrev held : List ℕ
    held = restored_in map (journal_of map) files

    abbrev journal : List ℕ
    journal = bytes_or_none files (journal_of map)

    found : (bytes : List ℕ) × (file files map ≡ Some bytes) × AreBytes bytes
    found = found_in (file files map) (subst (λ o. OfFile o map ⊥ AreBytes) is there)

    image : image_on map (journal_of map) files ≡ beside found.0 journal
    image = ap (λ b. beside b journal) (ap or_none found.1)

    agrees : AgreesWithFault (form_by (version_of held)) hash held
    agrees = agree (version_of held) held
        (held_bytes hash agree map batch files (λ q. subst (λ o. OfFile o q ⊤ AreBytes) is (all q)))

    module _ (result : Result Ending Halt) (k : KnowsVersion hash map batch mid after result) where
      own : k.version ≡ version_of held
      own = subst (λ o. TellsVersion map (journal_of map) o (Ok k.version)) (same ∙ is) k.tells

      told : k.mid.files ≡ Some files
      told = k.files ∙ same ∙ is

    ends_told : (ending : Ending) → KnowsVersion hash map batch mid after (Ok ending)
        → EndsPlan plan (Some files) after.files ending.status (printed_of ending)
    ends_told ending k = (
      Some found.0,
      found.1,
      found.2,
      (
        journal,
        refl,
        subst (λ h. EndsPlan (rest h) (Some files) after.files ending.status (printed_of ending)) image
            (ends_text hash map batch files k.version (own (Ok ending) k) agrees k.mid after (told (Ok ending) k) ending
            k.updates),
      ),
    )

    up_told : (halt : Halt) → KnowsVersion hash map batch mid after (Err halt)
        → StopsCommand before after halt × GivesUpPlan plan (Some files) after.files
    up_told halt k =
        let up = up_text hash map batch files k.version (own (Err halt) k) agrees k.mid after (told (Err halt) k) halt
        k.updates in (
          stops_from before k.mid after (omega (arith, faults, k.counts.faults)) halt up.0,
          inr (
            Some found.0,
            found.1,
            inr (
              journal,
              refl,
              subst (λ h. GivesUpPlan (rest h) (Some files) after.files) image up.1,
            ),
          ),
        )

    lacks_told : IsAbsent (Some files) batch → LacksInput plan (Some files)
    lacks_told absent = inr (Some found.0, found.1, (journal, refl, inl absent))

    few_told : (n : ℕ) × (after.reads ≤ before.reads + n) × AllowsReads plan files n
    few_told = (
      after.reads,
      omega arith,
      (
        0,
        after.reads,
        omega arith,
        omega arith,
        inr (subst (λ input. AllowsReads (given map (behind hash agree map batch) input) files after.reads)
            (sym found.1) tt),
      ),
    )

  -- ---- over any files

  ends_any : (told : Option Files) → before.files ≡ told → (ending : Ending)
      → KnowsVersion hash map batch mid after (Ok ending)
      → EndsAsSaid plan may told after.files ending.status (printed_of ending)
  ends_any None is ending k =
      ends_untold hash map batch k.version k.mid after (k.files ∙ same ∙ is) ending k.updates
  ends_any (Some files) is ending k = ends_told files is ending k

  up_any : (told : Option Files) → before.files ≡ told → (halt : Halt)
      → KnowsVersion hash map batch mid after (Err halt)
      → StopsCommand before after halt × GivesUpAsSaid plan may told after.files
  up_any None is halt k =
      let up = up_untold hash map batch k.version k.mid after (k.files ∙ same ∙ is) halt k.updates in (
        stops_from before k.mid after (omega (arith, faults, k.counts.faults)) halt up.0,
        (up.1, (says_missing map, inl refl)),
      )
  up_any (Some files) is halt k = up_told files is halt k

  up_before : (told : Option Files) → after.files ≡ told → GivesUpAsSaid plan may told after.files
  up_before None is = (is, (says_missing map, inl refl))
  up_before (Some files) is = inl is

  few_any : (told : Option Files) → before.files ≡ told
      → OfFiles told (λ files. (n : ℕ) × (after.reads ≤ before.reads + n) × AllowsReads plan files n)
  few_any None is = tt
  few_any (Some files) is = few_told files is

  lacks_any : (told : Option Files) → before.files ≡ told → IsAbsent told batch → LacksInput plan told
  lacks_any None is absent = absurd absent
  lacks_any (Some files) is absent = lacks_told files is absent

  outside_any : (ending : Ending) → KnowsVersion hash map batch mid after (Ok ending) → ending.status ≡ Outside
      → Rose before.faults after.faults ⊎ LacksInput plan before.files
  outside_any ending k out = elim (outside_text hash map batch k.version k.mid after ending k.updates out) [
    | inl rose ↦ inl (omega (arith, faults, k.counts.faults, rose))
    | inr absent ↦ inr (lacks_any before.files refl (subst (λ o. IsAbsent o batch) (k.files ∙ same) absent))
  ]

  calm_any : (ending : Ending) → KnowsVersion hash map batch mid after (Ok ending) → IsSome before.files
      → IsCalm before after (Ok ending)
  calm_any ending k some settled =
      let told = ap is_some same ∙ some in
      calm_text hash map batch k.version k.mid after (ap is_some k.files ∙ told) ending k.updates settled
      ∙ k.quiet told ∙ still

  counts_any : (result : Result Ending Halt) → KnowsVersion hash map batch mid after result → NoneFalls before after
  counts_any result k =
      let on = counts_text hash map batch k.version k.mid after result k.updates in
      record {
        faults = omega (arith, faults, k.counts.faults, on.faults);
        reads = omega (arith, reads, k.counts.reads, on.reads);
      }

  no_halt : (ending : Ending) (halt : Halt) → ◌≡◌ {A = Result Ending Halt} (Ok ending) (Err halt) → ⊥
  no_halt ending halt e = cc

  pub there_here : (result : Result Ending Halt) → UpdatesThere hash map batch mid after result
      → ComesLoudly plan may (AllowsReads plan) before after result
  there_here (Ok ending) (inl s) = absurd (no_halt ending s.halt s.is)
  there_here (Ok ending) (inr k) = record {
    counts = counts_any (Ok ending) k;
    judged = judged_here hash agree map batch before.files all;
    came = ends_any before.files refl ending k;
    outside = outside_any ending k;
    quiet = calm_any ending k;
    few = few_any before.files refl;
  }
  there_here (Err halt) (inl s) = record {
    counts = record {
      faults = omega (arith, faults, s.counts.faults);
      reads = omega (arith, reads, s.counts.reads);
    };
    judged = judged_here hash agree map batch before.files all;
    came = (
      stops_from before mid after faults halt
          (subst (StopsCommand mid after) (sym (err_is halt s.halt s.is)) s.stops),
      up_before before.files (s.files ∙ same),
    );
    outside = tt;
    quiet = λ some. tt;
    few = few_any before.files refl;
  }
  there_here (Err halt) (inr k) = record {
    counts = counts_any (Err halt) k;
    judged = judged_here hash agree map batch before.files all;
    came = up_any before.files refl halt k;
    outside = tt;
    quiet = λ some. tt;
    few = few_any before.files refl;
  }
