-- `apply-here` as a whole: what its plan comes to, over files that are told and over others.
use Rattle.std.proofs.Common.{◌≡◌, ℕ, false, true, List, [], Some, None, Result, Ok, Err, refl, sym, ap, subst, ◌∙◌, inl, inr}
use Rattle.std.specs.Prelude.{All}
use Rattle.std.specs.List.{list_any}
use Rattle.std.proofs.lemmas.Bool.{false≢true}
use Rattle.mr_outside.specs.Faults.{Rose}
use Rattle.mr_outside.specs.Files.{Files}
use Rattle.mr_outside.specs.State.{Shelved}
use Rattle.mr_record.specs.declared.version.Version.{Version}
use Rattle.mr_record.specs.declared.version.Version.TheVariants.{One, Two}
use Rattle.mr_outside.specs.Bytes.{AreBytes}
use Rattle.mr_pages.specs.File.{version_of}
use Rattle.mr_pages.specs.Law.{AgreesWithFault, map_root}
use Rattle.mr_pages.specs.PageBytes.{form_by}
use Rattle.mr_batch.specs.BatchText.{batch_of_text}
use Rattle.mr_batch.specs.Changes.{Changes}
use Rattle.mr_batch.specs.declared.change.Change.{Change}
use Rattle.mr_batch.specs.declared.change.Change.TheVariants.{Add, Remove}
use Rattle.mr_edit.specs.Replayed.{IsOfVersion}
use Rattle.mr_journal.specs.Recovered.{restored_in}
use Rattle.mr_journal.specs.Images.{Image}
use Rattle.mr_journal.specs.Shelves.{image_on, KeepsBeside}
use Rattle.mr_here.specs.Layers.{has_layer, lacks_layers}
use Rattle.mr_here.specs.OnFiles.{AppliesTo}
use Rattle.mr_here.specs.Updated.{map_after, AnswersSome}
use Rattle.mr_here.specs.declared.error.HereErr.{HereErr}
use Rattle.mr_here.specs.declared.error.HereErr.TheVariants as errors
use Rattle.mr_plan.specs.Found.{bad_map_line}
use Rattle.mr_plan.specs.Lines.{bad_batch_line, digest_line, needs_version_2_line}
use Rattle.mr_plan.specs.Outcome.{InPlace, Outcome}
use Rattle.mr_plan.specs.Outcome as content
use Rattle.mr_plan.specs.Plan.{Plan, comes, opens}
use Rattle.mr_plan.specs.Say.{beside, say_batch_here, say_change_here, say_text_here}
use Rattle.mr_plan.specs.Saying.{journal_of, say_in_place}
use Rattle.mr_plan.specs.Untold.{IsBadBatchHere, IsRootHere, LacksLayersHere, MaySayApplyHere, adds_layer}
use Rattle.mr_plan.specs.declared.status.Status.TheVariants.{BadBatch, BadMap, Done, NeedsVersion2}
use Rattle.mr_command.specs.Ending.{EndsPlan, GivesUpPlan, StopsCommand, printed_of}
use Rattle.mr_command.specs.private.Here.{SaysApplied, UpdatesFile}
use Rattle.mr_command.specs.declared.ending.Ending.{Ending}
use Rattle.mr_command.specs.declared.ending.Halt.{Halt}
use Rattle.mr_command.specs.declared.ending.Halt.TheVariants as halts
use Rattle.mr_command.proofs.Batches.{of_text}
use Rattle.mr_command.proofs.HereAnswers.{ends_applied, has_layers, up_applied}

-- ---- over files that are told, behind the map

module _ (hash : List ℕ → List ℕ) (map batch : List ℕ) (files : Files) (v : Version)
    (own : v ≡ version_of (restored_in map (journal_of map) files))
    (agrees : AgreesWithFault (form_by (version_of (restored_in map (journal_of map) files))) hash
    (restored_in map (journal_of map) files)) where
  abbrev held : List ℕ
  held = restored_in map (journal_of map) files

  abbrev was : Image
  was = image_on map (journal_of map) files

  abbrev next : List ℕ → Plan
  next text = say_change_here hash map was text

  abbrev opened : Changes → Plan
  opened b = opens (version_of held) hash held (λ found. comes (say_batch_here (version_of held) hash map was b found))

  module _ (b : Changes) (text : List ℕ) (right : batch_of_text v text ≡ Ok b) where
    right_here : batch_of_text (version_of held) text ≡ Ok b
    right_here = ap (λ w. batch_of_text w text) (sym own) ∙ right

    plan_is : opened b ≡ next text
    plan_is = ap (say_text_here (version_of held) hash map was) (sym right_here)

    layers : lacks_layers (version_of held) b.list ≡ false
    layers = has_layers (version_of held) b.list (of_text (version_of held) text b right_here)

    module _ (before after : Shelved) (result : Result Ending Halt) (told : before.files ≡ Some files)
        (u : UpdatesFile hash map b before after result) where
      kept : KeepsBeside map (journal_of map) (Some files) after.files
      kept = subst (λ o. KeepsBeside map (journal_of map) o after.files) told u.beside

      abbrev new : Files
      new = kept.0

      now : after.files ≡ Some new
      now = kept.1

      applies : AppliesTo hash map (journal_of map) b (Some files) (Some new) u.answer
      applies = subst (λ o. AppliesTo hash map (journal_of map) b (Some files) o u.answer) now
          (subst (λ o. AppliesTo hash map (journal_of map) b o after.files u.answer) told u.applies)

      kept_new : KeepsBeside map (journal_of map) (Some files) (Some new)
      kept_new = subst (λ o. KeepsBeside map (journal_of map) (Some files) o) now kept

      pub update_ends : (ending : Ending) → result ≡ Ok ending
          → EndsPlan (next text) (Some files) after.files ending.status (printed_of ending)
      update_ends ending is =
          subst (λ o. EndsPlan (next text) (Some files) o ending.status (printed_of ending)) (sym now)
          (subst (λ p. EndsPlan p (Some files) (Some new) ending.status (printed_of ending)) plan_is
          (ends_applied hash map b files agrees layers new kept_new u.answer applies ending
          (subst (SaysApplied u.answer) is u.says)))

      pub update_up : GivesUpPlan (next text) (Some files) after.files
      update_up =
          subst (λ o. GivesUpPlan (next text) (Some files) o) (sym now)
          (subst (λ p. GivesUpPlan p (Some files) (Some new)) plan_is
          (up_applied hash map b files agrees layers new kept_new u.answer applies))

      pub stops_of : (r : Result (List ℕ) HereErr) → (r ≡ Err errors.Fault → Rose before.faults after.faults)
          → (halt : Halt) → SaysApplied r (Err halt) → StopsCommand before after halt
      stops_of (Ok digest) fault halt says = subst (StopsCommand before after) (sym says) tt
      stops_of (Err (errors.Map f)) fault halt says = subst (StopsCommand before after) (sym says) tt
      stops_of (Err errors.Layer) fault halt says = subst (StopsCommand before after) (sym says) tt
      stops_of (Err (errors.Batch f)) fault halt says = subst (StopsCommand before after) (sym says) tt
      stops_of (Err errors.Fault) fault halt says =
          subst (StopsCommand before after) (sym (err_is halt halts.Shelf says)) (fault refl)
        where
          err_is : (a b : Halt) → ◌≡◌ {A = Result Ending Halt} (Err a) (Err b) → a ≡ b
          err_is a b e = cc
      stops_of (Err errors.NoMemory) fault halt says =
          subst (StopsCommand before after) (sym (err_is halt halts.NoMemory says)) tt
        where
          err_is : (a b : Halt) → ◌≡◌ {A = Result Ending Halt} (Err a) (Err b) → a ≡ b
          err_is a b e = cc

-- ---- over files that are not told

-- a map of version 1, and a batch of a text of version 2 that asks for a layer
record AsksLayers (v w : Version) (xs : List Change) : Type 0 where
  one : v ≡ One
  two : w ≡ Two
  adds : list_any adds_layer xs ≡ true

same_layer : (c : Change) → has_layer c ≡ adds_layer c
same_layer (Add r) = refl
same_layer (Remove n) = refl

asked_layers : (v w : Version) (xs : List Change) → All (IsOfVersion w) xs → lacks_layers v xs ≡ true
    → AsksLayers v w xs
asked_layers One One xs all lacks = absurd (false≢true (sym (has_layers One xs all) ∙ lacks))
asked_layers One Two xs all lacks =
    record { one = refl; two = refl; adds = sym (λ i. list_any (λ c. same_layer c i) xs) ∙ lacks }
asked_layers Two w xs all lacks = absurd (false≢true lacks)

module _ (hash : List ℕ → List ℕ) (map batch : List ℕ) (v : Version) (text : List ℕ) (are : AreBytes text)
    (b : Changes) (right : batch_of_text v text ≡ Ok b) where
  abbrev nothing : Image
  nothing = beside [] []

  -- what is said of an update in place
  pub may_say : (r : Result (List ℕ) HereErr) → AnswersSome hash b r → (ending : Ending) → SaysApplied r (Ok ending)
      → (said : Outcome) × MaySayApplyHere hash map batch said × (ending.status ≡ said.status)
      × (printed_of ending ≡ said.printed) × ((made : _) × (said.written ≡ InPlace map (journal_of map) nothing made))
  may_say (Ok digest) some ending says =
      let m = some.2.0 in
      let bytes = some.2.1 in
      let makes = some.2.2 in
      let root = ap digest_line makes.digest_is in
      let made : IsRootHere hash map
      (say_in_place Done (digest_line (map_root hash (map_after m b))) map nothing (Some (content.text bytes))) = (
        v,
        b,
        (text, are, right),
        (
          m,
          (some.0, some.1, makes.one.stands),
          makes.may,
          (
            map_after m b,
            refl,
            (bytes, makes.next.stands, (nothing, refl)),
          ),
        ),
      ) in (
        say_in_place Done (digest_line (map_root hash (map_after m b))) map nothing (Some (content.text bytes)),
        inr (inr (inr (inr (inr (inr made))))),
        says.status,
        says.printed ∙ root,
        (Some (content.text bytes), refl),
      )
  may_say (Err (errors.Map f)) some ending says = (
    say_in_place BadMap (bad_map_line f) map nothing None,
    inr (inr (inr (inl (f, (version_of some.0, (some.0, some.1, some.2)), (nothing, refl))))),
    says.status,
    says.printed,
    (None, refl),
  )
  may_say (Err errors.Layer) some ending says =
      let m = some.2.0 in
      let asks = asked_layers m.version v b.list (of_text v text b right) some.2.2 in
      let lacks : LacksLayersHere hash map (say_in_place NeedsVersion2 needs_version_2_line map nothing None) = (
        b,
        (text, are, ap (λ (w : Version). batch_of_text w text) (sym asks.two) ∙ right),
        asks.adds,
        (m, (some.0, some.1, some.2.1.stands), asks.one, (nothing, refl)),
      ) in (
        say_in_place NeedsVersion2 needs_version_2_line map nothing None,
        inr (inr (inr (inr (inl lacks)))),
        says.status,
        says.printed,
        (None, refl),
      )
  may_say (Err (errors.Batch f)) some ending says =
      let m = some.2.0 in
      let bad : IsBadBatchHere hash map (say_in_place BadBatch (bad_batch_line f) map nothing None) =
      (v, b, (text, are, right), (m, (some.0, some.1, some.2.1.stands), (f, some.2.3, (nothing, refl)))) in (
        say_in_place BadBatch (bad_batch_line f) map nothing None,
        inr (inr (inr (inr (inr (inl bad))))),
        says.status,
        says.printed,
        (None, refl),
      )
  may_say (Err errors.Fault) some ending says = absurd (cc)
  may_say (Err errors.NoMemory) some ending says = absurd (cc)
