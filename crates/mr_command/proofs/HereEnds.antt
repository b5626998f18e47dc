-- `apply-here` over files that are told: what is said and left behind an update in place.
use Rattle.std.proofs.Common.{◌≡◌, ℕ, List, [], ◌∷◌, Option, Some, None, Ok, Err, refl, sym, ap, subst, ◌∙◌}
use Rattle.mr_outside.specs.Files.{Files}
use Rattle.mr_record.specs.Version.{version_byte}
use Rattle.mr_tree.specs.Tree.{records}
use Rattle.mr_tree.specs.declared.tree.Tree.{Tree}
use Rattle.mr_pages.specs.Faults.{mapfault}
use Rattle.mr_pages.specs.File.{file_of, form_at, version_of}
use Rattle.mr_pages.specs.Law.{AgreesWithFault, IsMapFile, map_in, map_root}
use Rattle.mr_pages.specs.PageBytes.{form_by}
use Rattle.mr_pages.specs.declared.opening.Opened.{Opened}
use Rattle.mr_pages.specs.declared.rule.MapFault.{MapFault}
use Rattle.mr_pages.proofs.Answered.{stands_version}
use Rattle.mr_batch.specs.Admissible.{batch_fault}
use Rattle.mr_batch.specs.Changes.{Changes}
use Rattle.mr_batch.specs.Peak.{peak}
use Rattle.mr_batch.specs.Replay.{replay}
use Rattle.mr_batch.specs.declared.admission.BatchFault.{BatchFault}
use Rattle.mr_journal.specs.Changed.{IsChange}
use Rattle.mr_journal.specs.Format.{carried, changed_by, recovered, restored}
use Rattle.mr_journal.specs.Images.{Image}
use Rattle.mr_journal.specs.Shelves.{bytes_or_none, image_on, KeepsBeside}
use Rattle.mr_here.specs.Updated.{IsOneMap, MakesNext}
use Rattle.mr_plan.specs.First.{pages_by}
use Rattle.mr_plan.specs.Found.{ShowsMap, bad_map_line}
use Rattle.mr_plan.specs.Lines.{bad_batch_line, digest_line}
use Rattle.mr_plan.specs.Outcome.{Content, InPlace, IsChangedMap, IsUpdatedTo, IsWholly, LeavesWritten, changed}
use Rattle.mr_plan.specs.Plan.{comes, opens}
use Rattle.mr_plan.specs.Say.{say_admitted_here, say_batch_here}
use Rattle.mr_plan.specs.Saying.{journal_of}
use Rattle.mr_plan.proofs.InPlace.{recovered_map}
use Rattle.mr_plan.specs.declared.status.Status.{Status}
use Rattle.mr_plan.specs.declared.status.Status.TheVariants.{BadBatch, BadMap, Done}
use Rattle.mr_command.specs.Ending.{EndsPlan, FindsMap, IsWell}
use Rattle.mr_command.proofs.Batches.{no_fault}

-- ---- what recovery and an update leave

pub changed_map : (body : List ℕ) (k : Image) → (changed_by body k).map ≡ carried body k.map
unfolding changed_by
changed_map body k = refl

pub same_image : (a b : Image) → Some a ≡ Some b → a ≡ b
same_image a b e = cc

-- ---- the map that is found

module _ (hash : List ℕ → List ℕ) (was : Image) (m : Opened) (one : IsOneMap hash (restored was) m) where
  abbrev held : List ℕ
  held = restored was

  -- it is read in its version
  pub own : version_of held ≡ m.version
  own = stands_version m.version hash held m.tree m.batch one.stands.stands

  pub shows : ShowsMap (version_of held) hash held (Ok m)
  shows = (sym own, subst (λ v. IsMapFile hash held (map_in v m.tree m.batch)) (sym own) one.stands)

  finds : FindsMap (version_of held) hash held (Ok m)
  finds n is =
      ap (λ x. Ok x) (sym (one.only n (subst (λ v. IsMapFile hash held (map_in v n.tree n.batch)) (sym is.0) is.1)))

  well : IsWell (Ok m)
  well = (one.stands.well, one.stands.stands.batch_fits)

  -- ---- a batch that was applied

  module _ (map : List ℕ) (b : Changes) (made digest : List ℕ) (makes : MakesNext hash b m held made digest) where
    abbrev after_tree : Tree
    after_tree = replay m.tree (b ∷ [])

    pub whole : IsChangedMap (version_of held) hash (pages_by (version_of held) held) (peak m.tree b) after_tree
        b.number made
    whole = subst (λ v. IsChangedMap v hash (pages_by v held) (peak m.tree b) after_tree b.number made) (sym own)
        (record { stands = makes.next.stands; no_fewer = makes.next.no_fewer; no_more = makes.next.no_more })

    rooted : digest ≡ map_root hash (map_in (version_of held) after_tree b.number)
    rooted = subst (λ v. digest ≡ map_root hash (map_in v after_tree b.number)) (sym own) makes.digest_is

    module _ (files new : Files) (kept : KeepsBeside map (journal_of map) (Some files) (Some new)) (body : List ℕ)
        (change : IsChange (version_byte m.version) (recovered was).map made body)
        (left : image_on map (journal_of map) new ≡ changed_by body (recovered was))
        (status : Status) (text : List ℕ) (done : status ≡ Done) (printed : text ≡ digest_line digest) where
      abbrev content : Content
      content = changed (version_of held) hash (pages_by (version_of held) held) (peak m.tree b) after_tree b.number

      there : bytes_or_none new map ≡ made
      there = ap (λ (k : Image). k.map) left ∙ changed_map body (recovered was) ∙ change.makes

      updated : IsUpdatedTo content (recovered was) (image_on map (journal_of map) new)
      updated = record {
        wholly = subst (IsWholly content) (sym there) whole;
        body = body;
        change = subst (λ v. IsChange (version_byte v) (recovered was).map (bytes_or_none new map) body)
            (sym (ap version_of (recovered_map was) ∙ own))
            (subst (λ n. IsChange (version_byte m.version) (recovered was).map n body) (sym there) change);
        left = left;
      }

      ends_admitted : (fault : Option BatchFault) → fault ≡ None
          → EndsPlan (comes (say_admitted_here (version_of held) hash map was m.tree b fault)) (Some files) (Some new)
          status text
      ends_admitted None is = (
        done,
        printed ∙ ap digest_line rooted,
        (kept, updated, tt),
      )
      ends_admitted (Some f) is = absurd (some_none f is)
        where
          some_none : (f : BatchFault) → Some f ≡ None → ⊥
          some_none f e = cc

      pub ends_done : EndsPlan (opens (version_of held) hash held
          (λ found. comes (say_batch_here (version_of held) hash map was b found))) (Some files) (Some new) status text
      ends_done = (
        Ok m,
        (shows, finds),
        well,
        ends_admitted (batch_fault (records m.tree) m.batch b) (no_fault (records m.tree) m.batch b makes.may),
      )

  -- ---- a batch that may not be

  module _ (map : List ℕ) (b : Changes) (fault : BatchFault)
      (is : batch_fault (records m.tree) m.batch b ≡ Some fault) (files : Files) (after : Option Files)
      (left : LeavesWritten (InPlace map (journal_of map) was None) (Some files) after)
      (status : Status) (text : List ℕ) (bad : status ≡ BadBatch) (printed : text ≡ bad_batch_line fault) where
    pub ends_refused : EndsPlan (opens (version_of held) hash held
        (λ found. comes (say_batch_here (version_of held) hash map was b found))) (Some files) after status text
    ends_refused = (
      Ok m,
      (shows, finds),
      well,
      subst (λ f. EndsPlan (comes (say_admitted_here (version_of held) hash map was m.tree b f)) (Some files) after
          status text) (sym is) (bad, printed, left),
    )

-- ---- a file that stands for no map

module _ (hash : List ℕ → List ℕ) (was : Image)
    (agrees : AgreesWithFault (form_by (version_of (restored was))) hash (restored was)) (fault : MapFault)
    (is : mapfault hash (file_of (form_at (restored was)) (restored was)) ≡ Some fault) where
  abbrev read : List ℕ
  read = restored was

  none_found : FindsMap (version_of read) hash read (Err fault)
  none_found n shown = absurd (some_none (sym is ∙ agrees.none n.tree n.batch shown.1))
    where
      some_none : Some fault ≡ None → ⊥
      some_none e = cc

  pub ends_faulty : (map : List ℕ) (b : Changes) (files : Files) (after : Option Files)
      → LeavesWritten (InPlace map (journal_of map) was None) (Some files) after
      → (status : Status) (text : List ℕ) → status ≡ BadMap → text ≡ bad_map_line fault
      → EndsPlan (opens (version_of read) hash read
      (λ found. comes (say_batch_here (version_of read) hash map was b found))) (Some files) after status text
  ends_faulty map b files after left status text bad printed =
      (Err fault, (is, none_found), tt, (bad, printed, left))
