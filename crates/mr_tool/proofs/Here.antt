-- What a run promises of a map in its own file.
use Rattle.std.proofs.Common.{◌≡◌, ℕ, List, [], ◌∷◌, refl, sym, ap, subst, ◌∙◌}
use Rattle.std.specs.Prelude.{false, Option, Some, None, Ok}
use Rattle.mr_outside.specs.Files.{Files, file}
use Rattle.mr_outside.specs.Told.{OfFiles}
use Rattle.mr_record.specs.declared.version.Version.{Version}
use Rattle.mr_tree.specs.Tree.{records}
use Rattle.mr_tree.specs.declared.tree.Tree.{Tree}
use Rattle.mr_pages.specs.Law.{IsMapFile, map_root, map_in}
use Rattle.mr_pages.proofs.Answered.{stands_version}
use Rattle.mr_batch.specs.Admissible.{batch_fault}
use Rattle.mr_batch.specs.Applied.{IsAdmissible}
use Rattle.mr_batch.specs.BatchText.{batch_of_text}
use Rattle.mr_batch.specs.Changes.{Changes}
use Rattle.mr_batch.specs.Peak.{peak}
use Rattle.mr_batch.specs.Replay.{replay}
use Rattle.mr_batch.specs.declared.admission.BatchFault.{BatchFault}
use Rattle.mr_journal.specs.Format.{is_open}
use Rattle.mr_journal.specs.Images.{Image}
use Rattle.mr_journal.specs.Recovered.{FilesHave, restored_in}
use Rattle.mr_journal.specs.Shelves.{bytes_or_none, image_on, or_none, KeepsBeside}
use Rattle.mr_command.specs.Ending.{EndsPlan, EndsAsSaid}
use Rattle.mr_plan.specs.Lines.{digest_line, recovered_line}
use Rattle.mr_plan.specs.First.{pages_by}
use Rattle.mr_plan.specs.Outcome.{Content, IsMended, Outcome, changed}
use Rattle.mr_plan.specs.Plan.{Plan, comes, seeks, Input}
use Rattle.mr_plan.specs.Say.{beside, given, needs, needs_both, say_admitted_here, say_apply_here, say_batch_here, say_change_here, say_recover, say_recovered, say_text_here}
use Rattle.mr_plan.specs.Saying.{journal_of}
use Rattle.mr_plan.specs.declared.status.Status.{Status}
use Rattle.mr_plan.specs.declared.status.Status.TheVariants.{Done, BadBatch, Outside}
use Rattle.mr_plan.proofs.InPlace.{mended_shut, recovered_map}
use Rattle.mr_command.proofs.Batches.{fits_if_none, no_fault}
use Rattle.mr_tool.specs.Promises.{HoldsFile, HoldsHere}

not_outside : (status : Status) → status ≡ Done → status ≡ Outside → ⊥
not_outside status done out = absurd (cc)

not_bad : {A : Type 0} (status : Status) → status ≡ Done → status ≡ BadBatch → A
not_bad status done bad = absurd (cc)

not_both : (bytes : List ℕ) (input : Input) → input ≡ Some bytes → input ≡ None → ⊥
not_both bytes input some none = cc

have_of : (P Q : Files → Type 0) → ((new : Files) → P new → Q new) → (new : Files) (after : Option Files)
    → after ≡ Some new → OfFiles after P → FilesHave after Q
have_of P Q f new None is of = absurd (cc)
have_of P Q f new (Some files) is of = f files of

-- over files that are told, it is the plan that was come to
pub of_plan : (plan : Plan) (may : Outcome → Type 0) (files : Files) (before after : Option Files) (status : Status)
    (text : List ℕ) → before ≡ Some files → EndsAsSaid plan may before after status text
    → EndsPlan plan (Some files) after status text
of_plan plan may files before after status text told ends =
    subst (λ o. EndsAsSaid plan may o after status text) told ends

module _ (hash : List ℕ → List ℕ) (map : List ℕ) (files : Files) (after : Option Files) (status : Status)
    (text : List ℕ) where
  abbrev journal : List ℕ
  journal = journal_of map

  abbrev both : Image
  both = image_on map journal files

  abbrev held : List ℕ
  held = restored_in map journal files

  both_are : (bytes sought : List ℕ) → file files map ≡ Some bytes → bytes_or_none files journal ≡ sought
      → both ≡ beside bytes sought
  both_are bytes sought is at = λ i. beside (or_none (is i)) (at i)

  by_input : (next : Image → Plan) → (file files map ≡ None → status ≡ Outside → ⊥) → (input : Input)
      → file files map ≡ input
      → EndsPlan (given map (λ bytes. seeks journal (λ sought. next (beside bytes sought))) input) (Some files) after
      status text
      → EndsPlan (next both) (Some files) after status text
  by_input next there None is on = absurd (there is on.0)
  by_input next there (Some bytes) is (sought, at, on) =
      subst (λ i. EndsPlan (next i) (Some files) after status text) (sym (both_are bytes sought is at)) on

  -- what was come to by the two files
  on_both : (next : Image → Plan) → (file files map ≡ None → status ≡ Outside → ⊥)
      → EndsPlan (needs_both map next) (Some files) after status text
      → EndsPlan (next both) (Some files) after status text
  on_both next there (input, is, are, on) = by_input next there input is on

  left_of : (P Q : Files → Type 0) → ((new : Files) → P new → Q new) → KeepsBeside map journal (Some files) after
      → OfFiles after P → FilesHave after Q
  left_of P Q f (new, is, kept) of = have_of P Q f new after is of

  -- ---- recover

  pub record WasRecovered : Type 0 where
    pub text_is : text ≡ recovered_line (is_open both)
    pub left : FilesHave after (λ new. (bytes_or_none new map ≡ held) × (is_open (image_on map journal new) ≡ false))

  recovered_by : EndsPlan (comes (say_recovered map both)) (Some files) after status text → WasRecovered
  recovered_by (is, printed, (kept, mended, clean)) = record {
    text_is = printed;
    left = left_of (λ new. IsMended both None (image_on map journal new))
        (λ new. (bytes_or_none new map ≡ held) × (is_open (image_on map journal new) ≡ false))
        (λ new m. (
          ap (λ (k : Image). k.map) m ∙ recovered_map both,
          mended_shut both None
              (image_on map journal new) m,
        ))
        kept mended;
  }

  pub was_recovered : status ≡ Done → EndsPlan (say_recover map) (Some files) after status text → WasRecovered
  was_recovered done ends =
      recovered_by (on_both (λ image. comes (say_recovered map image)) (λ none. not_outside status done) ends)

  pub recover_done : (bytes : List ℕ) → file files map ≡ Some bytes
      → EndsPlan (say_recover map) (Some files) after status text → status ≡ Done
  recover_done bytes there ends =
      (on_both (λ image. comes (say_recovered map image))
      (λ none out. not_both bytes (file files map) there none) ends).0

  -- ---- apply-here

  module _ (v : Version) (t : Tree) (batch : ℕ) (stands : IsMapFile hash held (map_in v t batch)) (name words : List ℕ)
      (b : Changes) (there : file files name ≡ Some words) (right : batch_of_text v words ≡ Ok b) where
    abbrev said : Outcome
    said = say_admitted_here v hash map both t b (batch_fault (records t) batch b)

    by_batch : (input : Input) → file files name ≡ input
        → EndsPlan (given name (say_change_here hash map both) input) (Some files) after status text
        → EndsPlan (say_change_here hash map both words) (Some files) after status text
    by_batch input is on =
        subst (λ i. EndsPlan (given name (say_change_here hash map both) i) (Some files) after status text)
        (sym is ∙ there) on

    needed : EndsPlan (needs name (say_change_here hash map both)) (Some files) after status text
        → EndsPlan (say_change_here hash map both words) (Some files) after status text
    needed (input, is, are, on) = by_batch input is on

    opened : EndsPlan (say_text_here v hash map both (Ok b)) (Some files) after status text
        → EndsPlan (comes said) (Some files) after status text
    opened (found, was, well, on) =
        subst (λ f. EndsPlan (comes (say_batch_here v hash map both b f)) (Some files) after status text)
        (was.1 (map_in v t batch) (refl, stands)) on

    read : EndsPlan (say_change_here hash map both words) (Some files) after status text
        → EndsPlan (say_text_here v hash map both (Ok b)) (Some files) after status text
    read on =
        subst (λ r. EndsPlan (say_text_here v hash map both r) (Some files) after status text) right
        (subst (λ u. EndsPlan (say_text_here u hash map both (batch_of_text u words)) (Some files) after status text)
        (stands_version v hash held t batch stands.stands) on)

    came_of : (file files map ≡ None → status ≡ Outside → ⊥)
        → EndsPlan (say_apply_here hash map name) (Some files) after status text
        → EndsPlan (comes said) (Some files) after status text
    came_of at ends =
        opened (read (needed (on_both (λ image. needs name (say_change_here hash map image)) at ends)))

    pub record WasApplied : Type 0 where
      pub may : IsAdmissible (records t) batch b
      pub text_is : text ≡ digest_line (map_root hash (map_in v (replay t (b ∷ [])) b.number))
      pub left : FilesHave after (λ new. IsMapFile hash (bytes_or_none new map)
          (map_in v (replay t (b ∷ [])) b.number) × (is_open (image_on map journal new) ≡ false))

    abbrev content : Content
    content = changed v hash (pages_by v held) (peak t b) (replay t (b ∷ [])) b.number

    by_fault : (o : Option BatchFault) → batch_fault (records t) batch b ≡ o → status ≡ Done
        → EndsPlan (comes (say_admitted_here v hash map both t b o)) (Some files) after status text → WasApplied
    by_fault None none done (is, printed, (kept, mended, clean)) = record {
      may = fits_if_none (records t) batch b none;
      text_is = printed;
      left = left_of (λ new. IsMended both (Some content) (image_on map journal new))
          (λ new. IsMapFile hash (bytes_or_none new map) (map_in v (replay t (b ∷ [])) b.number)
          × (is_open (image_on map journal new) ≡ false)) (λ new m. (
            m.wholly.stands,
            mended_shut both
                (Some content) (image_on map journal new) m,
          )) kept mended;
    }
    by_fault (Some fault) some done on = not_bad status done on.0

    pub was_applied : status ≡ Done → EndsPlan (say_apply_here hash map name) (Some files) after status text
        → WasApplied
    was_applied done ends =
        by_fault (batch_fault (records t) batch b) refl done (came_of (λ none. not_outside status done) ends)

    done_by : (o : Option BatchFault) → o ≡ None
        → EndsPlan (comes (say_admitted_here v hash map both t b o)) (Some files) after status text → status ≡ Done
    done_by None none on = on.0
    done_by (Some fault) none on = absurd (cc)

    pub apply_here_done : (bytes : List ℕ) → file files map ≡ Some bytes → IsAdmissible (records t) batch b
        → EndsPlan (say_apply_here hash map name) (Some files) after status text → status ≡ Done
    apply_here_done bytes is may ends =
        done_by (batch_fault (records t) batch b) (no_fault (records t) batch b may)
        (came_of (λ none out. not_both bytes (file files map) is none) ends)

-- ---- inputs that are in order

module _ (hash : List ℕ → List ℕ) (map : List ℕ) (after : Option Files) (status : Status) (text : List ℕ)
    (may : Outcome → Type 0) where
  pub recovers_to_end : (told : Option Files) → HoldsFile told map
      → EndsAsSaid (say_recover map) may told after status text → status ≡ Done
  recovers_to_end None held ends = absurd held.1
  recovers_to_end (Some files) held ends = recover_done hash map files after status text held.0 held.1 ends

  pub applies_to_end : (name : List ℕ) (told : Option Files) → HoldsHere hash told map name
      → EndsAsSaid (say_apply_here hash map name) may told after status text → status ≡ Done
  applies_to_end name None holds ends = absurd holds.there.1
  applies_to_end name (Some files) holds ends =
      apply_here_done hash map files after status text holds.version holds.tree holds.batch holds.stands name holds.text
      holds.changes holds.beside holds.right holds.there.0 holds.there.1 holds.may ends
