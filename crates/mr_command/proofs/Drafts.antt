-- `apply` behind an opened map: what comes of its changes on a copy of the map's file, and why it may stop.
use Rattle.std.proofs.Common.{◌≡◌, ℕ, ◌+◌, ◌*◌, ◌<◌, ◌≤◌, ◌^◌, List, [], ◌∷◌, length, refl, sym, ap, subst, ◌∙◌, inl, inr, arith}
use Rattle.std.specs.Prelude.{Option, Some, None, option_map, IfSome, IsNone, IfOk, MatchResult, Result, Ok, Err}
use Rattle.mr_outside.specs.Files.{Files, with_file}
use Rattle.mr_outside.specs.State.{Shelved}
use Rattle.mr_outside.specs.Writing.{IsChanged}
use Rattle.mr_outside.proofs.Changes.{with_file-twice}
use Rattle.mr_outside.specs.declared.shelf.Shelf as shelves
use Rattle.mr_record.specs.declared.version.Version.{Version}
use Rattle.mr_record.specs.declared.version.Version.TheVariants.{One, Two}
use Rattle.mr_tree.specs.Digest.{by, root, root_preimage}
use Rattle.mr_tree.specs.Nodes.{MapModel, root_entry}
use Rattle.mr_tree.specs.View.{IsChild}
use Rattle.mr_tree.specs.declared.child.Child.{Child}
use Rattle.mr_tree.specs.Tree.{records}
use Rattle.mr_tree.specs.declared.tree.Tree.{Tree}
use Rattle.mr_pages.specs.Law.{IsMap, IsMapFile, map_in, map_root}
use Rattle.mr_pages.specs.Page.{Form}
use Rattle.mr_pages.specs.PageBytes.{form_of, layout_by}
use Rattle.mr_pages.specs.Saved.{IsUnsealed, LeavesFile}
use Rattle.mr_pages.specs.Source.{told_bytes}
use Rattle.mr_pages.specs.declared.error.MapErr.TheVariants as errors
use Rattle.mr_pages.specs.declared.head.MapHead.{MapHead}
use Rattle.mr_pages.specs.declared.layout.Layout.{Layout}
use Rattle.mr_pages.specs.declared.opening.Opened.{Opened}
use Rattle.mr_pages.specs.declared.rule.MapRule.{MapRule}
use Rattle.mr_pages.specs.declared.rule.MapRule.TheVariants as rule
use Rattle.mr_store.specs.CachedFile.{name_of, page_form, state_of}
use Rattle.mr_store.specs.Stored.{map_on, read_map}
use Rattle.mr_store.specs.declared.cached_file.CachedFile.{CachedFile}
use Rattle.mr_batch.specs.Applied.{IsAdmissible}
use Rattle.mr_batch.specs.Changes.{Changes}
use Rattle.mr_batch.specs.Directory.{DirectoryEntries}
use Rattle.mr_batch.specs.Peak.{peak}
use Rattle.mr_batch.specs.Replay.{replay}
use Rattle.mr_edit.specs.Causes.{HasEditCause, IsOfPages}
use Rattle.mr_draft.specs.Draft.{DraftState, DraftOf, IsTop, CopiesMap, CopyFails, CanApply, Applied, AppliesBatch, KeepsDraft, MayBeSealed, IsSealed, SealsMap, SealFails}
use Rattle.mr_draft.proofs.Sizes.{layout_is}
use Rattle.mr_edit.specs.Outcome.{IsLow}
use Rattle.mr_edit.specs.Reads.{reads_along}
use Rattle.mr_edit.specs.Shelves.{HasShelfCause}
use Rattle.mr_edit.specs.declared.error.EditErr.{EditErr}
use Rattle.mr_edit.specs.declared.error.EditErr.TheVariants as edits
use Rattle.mr_command.specs.private.Applying.{of_copy, of_edit, SaysSealed, MayApply, ComesBehind, IsFewOfCopy}
use Rattle.mr_command.specs.Ending.{IsEndingOf, IsEndingOrHalt, NoneFalls, StopsCommand}
use Rattle.mr_command.specs.private.Steps.{map_at, ComesBut, SaysRefusal}
use Rattle.mr_plan.specs.First.{pages_by}
use Rattle.mr_plan.specs.Lines.{digest_line}
use Rattle.mr_plan.specs.Outcome.{Outcome, Nothing, IsChangedMap, LeavesWritten, MayLeave}
use Rattle.mr_plan.specs.Plan.{comes}
use Rattle.mr_plan.specs.Untold.{IsOfAgain, IsRootOfSome, MaySayApply}
use Rattle.mr_plan.specs.Say.{prints, say_text, say_changed}
use Rattle.mr_command.specs.declared.ending.Ending.{Ending}
use Rattle.mr_command.specs.declared.ending.Halt.{Halt}
use Rattle.mr_command.specs.declared.ending.Halt.TheVariants as halts
use Rattle.mr_command.proofs.Counting.{few_none}
use Rattle.mr_command.proofs.Rereading.{IsBlamed, IsStopped, page_blamed, says_refused, stops_with}

-- ---- where a tree is told

pub by_some : (o : Option Tree) (P : Tree → Type 0) → ((t : Tree) → o ≡ Some t → P t) → IfSome o P
by_some None P f = tt
by_some (Some t) P f = f t refl

pub at_some : (o : Option Tree) (t : Tree) (P : Tree → Type 0) → o ≡ Some t → IfSome o P → P t
at_some o t P is all = subst (λ o. IfSome o P) is all

-- ---- a file that is written again

twice : (name first second : List ℕ) (told : Option Files)
    → option_map (with_file name second) (option_map (with_file name first) told)
    ≡ option_map (with_file name second) told
twice name first second None = refl
twice name first second (Some files) = ap (λ (x : Files). Some x) (with_file-twice name first second files)

again : (name first second : List ℕ) (before between after : Option Files)
    → IsChanged (with_file name) first before between → IsChanged (with_file name) second between after
    → IsChanged (with_file name) second before after
again name first second before between after one two =
    two ∙ ap (option_map (with_file name second)) one ∙ twice name first second before

-- files that are not told stay so
stays_none : (name bytes : List ℕ) (before after : Option Files) → before ≡ None
    → IsChanged (with_file name) bytes before after → after ≡ before
stays_none name bytes before after none is = is ∙ ap (option_map (with_file name bytes)) none ∙ sym none

left_none : (P : List ℕ → Type 0) (name : List ℕ) (before after : Option Files) → before ≡ None
    → LeavesFile P name before after → after ≡ before
left_none P name before after none (inl same) = same
left_none P name before after none (inr held) = stays_none name held.0 before after none held.2

-- what stands in the new file while it is no map
record Unsealed (hash : List ℕ → List ℕ) (new : List ℕ) (before after : Option Files) : Type 0 where
  bytes : List ℕ
  unsealed : IsUnsealed hash bytes
  files : IsChanged (with_file new) bytes before after

copied_on : {S : Type 0} {G : shelves.Ghosts S} (hash : List ℕ → List ℕ) (old : CachedFile S G) (h : MapHead)
    (new : List ℕ) (d e : DraftState) → CopiesMap hash old h new d → KeepsDraft hash d e
    → Unsealed hash new (state_of old).files e.shelf.files
copied_on hash old h new d e copies keeps = elim keeps.left [
  | inl same ↦ record { bytes = copies.bytes; unsealed = copies.unsealed; files = same ∙ copies.files }
  | inr held ↦ record {
    bytes = held.0;
    unsealed = held.1;
    files = again new copies.bytes held.0 (state_of old).files d.shelf.files e.shelf.files copies.files
        (subst (λ n. IsChanged (with_file n) held.0 d.shelf.files e.shelf.files) copies.named held.2);
  }
]

-- ---- the root digest of a map that was sealed

pub root_of_some : (hash : List ℕ → List ℕ) (v : Version) (batch count : ℕ) (root : Option Child) → batch < 2 ^ 64
    → IsTop count root → IsLow root → IfSome root IsChild → (r : Result (List ℕ) EditErr)
    → IfOk r (λ (digest : List ℕ). digest ≡ hash (root_preimage v batch count (root_entry root)))
    → IfOk r (IsRootOfSome hash)
root_of_some hash v batch count root low top level node (Err e) is = tt
root_of_some hash v batch count None low top level node (Ok digest) is = record {
  version = v;
  batch = batch;
  low = low;
  count = count;
  few = omega (arith, top);
  root = None;
  none = (λ zero. refl, λ none. top);
  level = tt;
  node = tt;
  is = is;
}
root_of_some hash v batch count (Some c) low top level node (Ok digest) is = record {
  version = v;
  batch = batch;
  low = low;
  count = count;
  few = top.1;
  root = Some c;
  none = (λ zero. absurd (omega (arith, zero, top.0)), λ n. let some : IsNone (Some c) = n in cc);
  level = level;
  node = node;
  is = is;
}

-- ---- why pages were not changed

again_of : (r : MapRule) → IsOfPages r → IsOfAgain r
again_of rule.Size is = absurd is
again_of rule.Unsealed is = absurd is
again_of rule.Header is = absurd is
again_of rule.Page is = tt
again_of rule.Outside is = tt
again_of rule.Twice is = absurd is
again_of (rule.Digest held found) is = absurd is
again_of rule.Rect is = absurd is
again_of rule.Sum is = absurd is
again_of rule.Fill is = absurd is
again_of rule.Number is = absurd is
again_of (rule.Count held found) is = absurd is
again_of rule.Free is = absurd is
again_of (rule.Changed held found) is = is

edit_blamed : (hash : List ℕ → List ℕ) (e : EditErr) (before after : Shelved)
    → HasEditCause before.faults after.faults e → IsBlamed hash before after (of_edit e)
edit_blamed hash (edits.Map f) before after cause =
    page_blamed hash f before after (inr (again_of f.rule cause.0)) cause.1
edit_blamed hash edits.Missing before after cause =
    record { missing = λ is. absurd (cc); fault = λ is. cause; map = λ f is. absurd (cc) }
edit_blamed hash edits.Fault before after cause =
    record { missing = λ is. absurd (cc); fault = λ is. cause; map = λ f is. absurd (cc) }
edit_blamed hash edits.NoMemory before after cause =
    record { missing = λ is. absurd (cc); fault = λ is. absurd (cc); map = λ f is. absurd (cc) }

-- where no page is blamed, the store or memory failed
shelf_stopped : (map : List ℕ) (e : EditErr) (before after : Shelved) (result : Result Ending Halt)
    → HasShelfCause before.faults after.faults e → SaysRefusal map (of_edit e) result → IsStopped before after result
shelf_stopped map (edits.Map f) before after result cause says = absurd cause
shelf_stopped map edits.Missing before after result cause says =
    record { halt = halts.Shelf; is = says; stops = cause }
shelf_stopped map edits.Fault before after result cause says =
    record { halt = halts.Shelf; is = says; stops = cause }
shelf_stopped map edits.NoMemory before after result cause says =
    record { halt = halts.NoMemory; is = says; stops = tt }

-- ---- how a command ends behind the map

-- it stopped
pub halts_but : (said : Outcome) (before after : Shelved) (halt : Halt) → NoneFalls before after
    → StopsCommand before after halt
    → MayLeave said.written before.files after.files → ComesBut (comes said) before after (Err halt)
halts_but said before after halt counts stops may = record {
  counts = record { faults = counts.faults; reads = omega arith };
  judged = tt;
  came = (stops_with after.reads before after halt stops, may);
  outside = tt;
  quiet = tt;
  few = few_none before.files said after.reads after.reads refl;
}

-- it came to its end
pub ends_but : (said : Outcome) (before after : Shelved) (ending : Ending) → NoneFalls before after
    → after.faults ≡ before.faults → IsEndingOf said ending → LeavesWritten said.written before.files after.files
    → ComesBut (comes said) before after (Ok ending)
ends_but said before after ending counts quiet gives left = record {
  counts = record { faults = counts.faults; reads = omega arith };
  judged = tt;
  came = (gives.status, gives.printed, left);
  outside = λ outside. absurd (gives.settled.0 outside);
  quiet = λ settled. quiet;
  few = few_none before.files said after.reads after.reads refl;
}

module _ (may_say : Outcome → Type 0) (s : MapModel) (said : Opened → Outcome) (few : Tree → Type 0)
    (before after : Shelved) (counts : NoneFalls before after) (read : IfSome s.tree few) where
  abbrev behind : Result Ending Halt → Type 0
  behind result = ComesBehind may_say s (λ m. comes (said m)) few before after result

  pub behind_halted : (halt : Halt) → StopsCommand before after halt
      → ((t : Tree) → s.tree ≡ Some t → MayLeave (said (map_at s t)).written before.files after.files)
      → (before.files ≡ None → after.files ≡ before.files) → behind (Err halt)
  behind_halted halt stops may gone = record {
    counts = counts;
    told = by_some s.tree (λ t. ComesBut (comes (said (map_at s t))) before after (Err halt))
        (λ t told. halts_but (said (map_at s t)) before after halt counts stops (may t told));
    untold = λ none. (stops, gone none);
    few_read = read;
  }

  -- no file was written
  pub behind_given : (one : Outcome) (result : Result Ending Halt) → one.written ≡ Nothing
      → ((t : Tree) → s.tree ≡ Some t → said (map_at s t) ≡ one) → (before.files ≡ None → may_say one)
      → after.files ≡ before.files → after.faults ≡ before.faults → IsEndingOrHalt one result → behind result
  behind_given one (Ok ending) writes is may files quiet gives = record {
    counts = counts;
    told = by_some s.tree (λ t. ComesBut (comes (said (map_at s t))) before after (Ok ending))
        (λ t told. subst (λ o. ComesBut (comes o) before after (Ok ending)) (sym (is t told))
        (ends_but one before after ending counts quiet gives
        (subst (λ w. LeavesWritten w before.files after.files) (sym writes) files)));
    untold = λ none. (
      one,
      may none,
      gives.status,
      gives.printed,
      subst (λ w. LeavesWritten w before.files after.files) (sym writes) files,
      λ outside. absurd (gives.settled.0 outside),
      λ settled. quiet,
    );
    few_read = read;
  }
  behind_given one (Err halt) writes is may files quiet none =
      behind_halted halt (subst (StopsCommand before after) (sym none) tt)
      (λ t told. subst (λ (o : Outcome). MayLeave o.written before.files after.files) (sym (is t told))
      (subst (λ w. MayLeave w before.files after.files) (sym writes) files))
      (λ none. files)

-- ---- what a map on pages stands for

-- its batch is that of its head
pub batch_in : (form : Form) (h : MapHead) (o : Option (List ℕ)) → (read_map form h o).batch ≡ h.batch
batch_in form h None = refl
batch_in form h (Some bytes) = refl

-- its version is that of its pages
pub version_in : (form : Form) (h : MapHead) (o : Option (List ℕ)) → (read_map form h o).version ≡ form.version
version_in form h None = refl
version_in form h (Some bytes) = refl

-- how many pages are in so many bytes
counted_in : (v : Version) (bytes : List ℕ) (n : ℕ) → length bytes ≡ n * (layout_by v).size → pages_by v bytes ≡ n
counted_in One bytes n is = omega (arith, is)
counted_in Two bytes n is = omega (arith, is)

-- ---- the changes

module _ {S : Type 0} {G : shelves.Ghosts S} (hash : List ℕ → List ℕ) (map new batch : List ℕ)
    (old : CachedFile S G) (h : MapHead) (b : Changes) where
  abbrev before : Shelved
  before = state_of old

  abbrev s : MapModel
  s = map_on old h

  abbrev said : Opened → Outcome
  said m = say_changed m.version hash new h.pages m.tree b

  abbrev few_of_copy : Shelved → Tree → Type 0
  few_of_copy after = IsFewOfCopy h.pages b before.reads after.reads

  abbrev changes : Shelved → Result Ending Halt → Type 0
  changes after result =
      ComesBehind (MaySayApply hash map batch new) s (λ m. comes (said m)) (few_of_copy after) before after result

  may_stand : (t : Tree) (after : Option Files) → LeavesFile (IsUnsealed hash) new before.files after
      → MayLeave (said (map_at s t)).written before.files after
  may_stand t after (inl same) = inl same
  may_stand t after (inr held) = inr (held.0, inl held.1, held.2)

  not_copied : (after : Shelved) (e : EditErr) (result : Result Ending Halt)
      → CopyFails hash h before new after e → SaysRefusal map (of_edit e) result → changes after result
  not_copied after e result fails says =
      let stop = shelf_stopped map e before after result fails.cause says in
      subst (changes after) (sym stop.is)
      (behind_halted (MaySayApply hash map batch new) s said (few_of_copy after) before after
      (record { faults = fails.later; reads = fails.more })
      (by_some s.tree (few_of_copy after) (λ t told. omega (arith, fails.few))) stop.halt stop.stops
      (λ t told. may_stand t after.files fails.left)
      (λ none. left_none (IsUnsealed hash) new before.files after.files none fails.left))

  none_told : before.files ≡ None → (t : Tree) → s.tree ≡ Some t → ⊥
  none_told none t told =
      let no : ◌≡◌ {A = Option Tree} None (Some t) =
      ap (λ o. (read_map (page_form old) h (told_bytes o (name_of old))).tree) (sym none) ∙ told in cc

  -- the map was not copied
  pub uncopied : (after : Shelved) (e : EditErr) (result : Result Ending Halt)
      → CopyFails hash h before new after e → SaysRefusal map (of_copy e) result → changes after result
  uncopied after (edits.Map f) result fails says = absurd fails.cause
  uncopied after edits.Missing result fails says = record {
    counts = record { faults = fails.later; reads = fails.more };
    told = by_some s.tree (λ t. ComesBut (comes (said (map_at s t))) before after result)
        (λ t told. absurd (none_told (fails.untold refl) t told));
    untold = λ none.
        says_refused hash (MaySayApply hash map batch new) map (λ said is. inl is) before after
        (left_none (IsUnsealed hash) new before.files after.files none fails.left) errors.Missing result
        (record { missing = λ is. fails.cause; fault = λ is. absurd (cc); map = λ f is. absurd (cc) }) says;
    few_read = by_some s.tree (few_of_copy after) (λ t told. omega (arith, fails.few));
  }
  uncopied after edits.Fault result fails says = not_copied after edits.Fault result fails says
  uncopied after edits.NoMemory result fails says = not_copied after edits.NoMemory result fails says

  module _ (dir : DirectoryEntries) (may : IfSome s.tree (MayApply dir h.batch b)) (d : DraftState)
      (copies : CopiesMap hash old h new d) where
    can : (t : Tree) → s.tree ≡ Some t → CanApply hash d dir b t
    can t told =
        let fits = at_some s.tree t (MayApply dir h.batch b) told may in
        record {
          draft = at_some s.tree t (DraftOf hash d) told copies.of_tree;
          directory = fits.directory;
          admissible = subst (λ n. IsAdmissible (records t) n b) (sym copies.at_batch) fits.admissible;
        }

    module _ (e : DraftState) (keeps : KeepsDraft hash d e)
        (within : (t : Tree) → CanApply hash d dir b t → e.shelf.reads ≤ d.shelf.reads + reads_along t b.list) where
      read : (after : Shelved) → after.reads ≡ e.shelf.reads → IfSome s.tree (few_of_copy after)
      read after same =
          by_some s.tree (few_of_copy after) (λ t told. omega (arith, same, within t (can t told), copies.few))

      counts : NoneFalls before e.shelf
      counts = record {
        faults = omega (arith, copies.quiet, keeps.faults);
        reads = omega (arith, copies.more, keeps.reads);
      }

      gone : before.files ≡ None → e.shelf.files ≡ before.files
      gone none =
          let left = copied_on hash old h new d e copies keeps in
          stays_none new left.bytes before.files e.shelf.files none left.files

      -- it is laid out as the pages of the map's version
      laid : e.layout ≡ layout_by s.version
      laid = keeps.layout ∙ copies.layout ∙ layout_is old.layout old.sized
          ∙ ap layout_by (sym (version_in (page_form old) h (told_bytes before.files (name_of old))))

      version_is : e.layout.version ≡ s.version
      version_is = ap (λ (l : Layout). l.version) (keeps.layout ∙ copies.layout)
          ∙ sym (version_in (page_form old) h (told_bytes before.files (name_of old)))

      may_be : (t : Tree) → MayLeave (said (map_at s t)).written before.files e.shelf.files
      may_be t =
          let left = copied_on hash old h new d e copies keeps in
          inr (left.bytes, inl left.unsealed, left.files)

      -- the batch was not applied to the copy
      pub unapplied : (error : EditErr) (result : Result Ending Halt)
          → HasEditCause d.shelf.faults e.shelf.faults error
          → ((t : Tree) → CanApply hash d dir b t → HasShelfCause d.shelf.faults e.shelf.faults error)
          → SaysRefusal map (of_edit error) result → changes e.shelf result
      unapplied error result cause sound says = record {
        counts = counts;
        told = by_some s.tree (λ t. ComesBut (comes (said (map_at s t))) before e.shelf result) (λ t told.
            let stop = shelf_stopped map error before e.shelf result
            (subst (λ n. HasShelfCause n e.shelf.faults error) copies.quiet (sound t (can t told))) says in
            subst (ComesBut (comes (said (map_at s t))) before e.shelf) (sym stop.is)
            (halts_but (said (map_at s t)) before e.shelf stop.halt counts stop.stops (may_be t)));
        untold = λ none.
            says_refused hash (MaySayApply hash map batch new) map (λ said is. inl is) before e.shelf (gone none)
            (of_edit error) result
            (edit_blamed hash error before e.shelf
            (subst (λ n. HasEditCause n e.shelf.faults error) copies.quiet cause)) says;
        few_read = read e.shelf refl;
      }

      module _ (dir' : DirectoryEntries) (applies : AppliesBatch hash d dir b e dir') (at_batch : e.batch ≡ b.number)
          (quiet : e.shelf.faults ≡ d.shelf.faults) (after : Shelved) (unread : after.reads ≡ e.shelf.reads) where
        -- the file of a draft that was sealed
        is_changed : (t : Tree) (bytes : List ℕ) → Applied hash d b t e dir'
            → IsSealed hash e (replay t (b ∷ [])) bytes
            → IsChangedMap s.version hash h.pages (peak t b) (replay t (b ∷ [])) b.number bytes
        is_changed t bytes a is =
            let counted : pages_by s.version bytes ≡ e.pages =
            counted_in s.version bytes e.pages (is.size ∙ ap (λ (l : Layout). e.pages * l.size) laid) in
            record {
              stands = subst (λ n. IsMapFile hash bytes (map_in s.version (replay t (b ∷ [])) n)) at_batch
                  (subst (λ l. IsMap (form_of l) hash bytes (replay t (b ∷ [])) e.batch) laid is.map);
              no_fewer = omega (arith, copies.paged, a.no_fewer, counted);
              no_more = omega (arith, copies.paged, a.no_more, counted);
            }

        changed_files : (bytes : List ℕ) → IsChanged (with_file e.name) bytes e.shelf.files after.files
            → IsChanged (with_file new) bytes before.files after.files
        changed_files bytes is =
            let left = copied_on hash old h new d e copies keeps in
            again new left.bytes bytes before.files e.shelf.files after.files left.files
            (subst (λ n. IsChanged (with_file n) bytes e.shelf.files after.files) (keeps.name ∙ copies.named) is)

        counts_on : e.shelf.faults ≤ after.faults → NoneFalls before after
        counts_on later = record {
          faults = omega (arith, counts.faults, later);
          reads = omega (arith, counts.reads, unread);
        }

        -- it was sealed
        sealed_so : (digest : List ℕ) (result : Result Ending Halt) → SealsMap hash e digest after
            → length digest ≡ 32 → IsRootOfSome hash digest → IsEndingOrHalt (prints (digest_line digest)) result
            → changes after result
        sealed_so digest (Ok ending) seals long some gives = record {
          counts = counts_on (omega (arith, seals.quiet));
          told = by_some s.tree (λ t. ComesBut (comes (said (map_at s t))) before after (Ok ending)) (λ t told.
              let a = applies t (can t told) in
              let same : digest ≡ map_root hash (map_in s.version (replay t (b ∷ [])) b.number) =
              subst (λ n. digest ≡ map_root hash (map_in s.version (replay t (b ∷ [])) n)) at_batch
              (subst (λ v. digest ≡ root (by v hash) (replay t (b ∷ [])) e.batch) version_is
              (seals.digest_is _ a.draft)) in
              ends_but (said (map_at s t)) before after ending (counts_on (omega (arith, seals.quiet)))
              (seals.quiet ∙ quiet ∙ copies.quiet)
              (record {
                status = gives.status;
                printed = gives.printed ∙ ap digest_line same;
                settled = gives.settled;
              })
              (seals.bytes, is_changed t seals.bytes a (seals.map _ a.draft), changed_files seals.bytes seals.files));
          untold = λ none. (
            content_of digest seals.bytes,
            inr (inr (inr (inr (digest, long, some, (seals.bytes, refl))))),
            gives.status,
            gives.printed,
            (seals.bytes, refl, changed_files seals.bytes seals.files),
            λ outside. absurd (gives.settled.0 outside),
            λ settled. seals.quiet ∙ quiet ∙ copies.quiet,
          );
          few_read = read after unread;
        }
          where
            content_of : (digest bytes : List ℕ) → Outcome
            content_of digest bytes = say_text (digest_line digest) new bytes
        sealed_so digest (Err halt) seals long some none =
            behind_halted (MaySayApply hash map batch new) s said (few_of_copy after) before after
            (counts_on (omega (arith, seals.quiet))) (read after unread) halt
            (subst (StopsCommand before after) (sym none) tt)
            (λ t told.
            let a = applies t (can t told) in
            inr (
              seals.bytes,
              inr (is_changed t seals.bytes a (seals.map _ a.draft)),
              changed_files seals.bytes seals.files,
            ))
            (λ none. stays_none new seals.bytes before.files after.files none
            (changed_files seals.bytes seals.files))

        -- it was not
        unsealed_so : (error : EditErr) (result : Result Ending Halt) → SealFails hash e after error
            → SaysRefusal map (of_edit error) result → changes after result
        unsealed_so error result fails says =
            let cause = subst (λ n. HasShelfCause n after.faults error) (quiet ∙ copies.quiet) fails.cause in
            let stop = shelf_stopped map error before after result cause says in
            subst (changes after) (sym stop.is)
            (behind_halted (MaySayApply hash map batch new) s said (few_of_copy after) before after
            (counts_on fails.later) (read after unread) stop.halt stop.stops
            (λ t told. may_end t (applies t (can t told)) fails.left)
            (λ none. ends_none none fails.left))
          where
            may_end : (t : Tree) → Applied hash d b t e dir'
                → LeavesFile (MayBeSealed hash e) e.name e.shelf.files after.files
                → MayLeave (said (map_at s t)).written before.files after.files
            may_end t a (inl same) =
                subst (MayLeave (said (map_at s t)).written before.files) (sym same) (may_be t)
            may_end t a (inr held) = inr (
              held.0,
              elim held.1 [
                | inl none ↦ inl none
                | inr whole ↦ inr (is_changed t held.0 a (whole _ a.draft))
              ],
              changed_files held.0 held.2,
            )

            ends_none : before.files ≡ None → LeavesFile (MayBeSealed hash e) e.name e.shelf.files after.files
                → after.files ≡ before.files
            ends_none none (inl same) = same ∙ gone none
            ends_none none (inr held) =
                stays_none new held.0 before.files after.files none (changed_files held.0 held.2)

        pub sealed : (r : Result (List ℕ) EditErr) (result : Result Ending Halt)
            → MatchResult r (λ digest. SealsMap hash e digest after) (SealFails hash e after)
            → IfOk r (IsRootOfSome hash) → SaysSealed map r result → changes after result
        sealed (Ok digest) result seals some says = sealed_so digest result seals says.0 some says.1
        sealed (Err error) result fails some says = unsealed_so error result fails says
