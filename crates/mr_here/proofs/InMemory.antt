-- A batch on a map in memory: what comes of it on a copy of the map's file, and why it is not applied.
use Rattle.std.proofs.Common.{◌≡◌, inl, inr, ℕ, ◌*◌, ◌/◌, ◌≤◌, ◌^◌, false, List, [], ◌∷◌, length, refl, sym, ap, subst, ◌∙◌, arith}
use Rattle.std.specs.Prelude.{Option, Some, None, option_map, IfSome, MatchOption, MatchResult, Result, Ok, Err}
use Rattle.mr_outside.specs.Files.{Files, file, with_file}
use Rattle.mr_outside.specs.State.{Shelved}
use Rattle.mr_outside.specs.Told.{OfFile}
use Rattle.mr_outside.specs.Writing.{IsChanged}
use Rattle.mr_outside.specs.declared.shelf.Shelf as shelves
use Rattle.mr_outside.proofs.Changes.{file-with_file}
use Rattle.mr_record.specs.Version.{version_byte}
use Rattle.mr_record.specs.declared.version.Version.{Version}
use Rattle.mr_record.specs.declared.version.Version.TheVariants.{One, Two}
use Rattle.mr_tree.specs.Digest.{by, root}
use Rattle.mr_tree.specs.Nodes.{MapModel}
use Rattle.mr_tree.specs.Tree.{records}
use Rattle.mr_tree.specs.WellFormed.{WellFormed}
use Rattle.mr_tree.specs.declared.hash.Hashes as hashes
use Rattle.mr_tree.specs.declared.tree.Tree.{Tree}
use Rattle.mr_pages.specs.File.{form_at, version_of}
use Rattle.mr_pages.specs.Law.{IsMap, IsMapFile, map_in}
use Rattle.mr_pages.specs.Opening.{TellsBytes, OrFails}
use Rattle.mr_pages.specs.Page.{Form}
use Rattle.mr_pages.specs.PageBytes.{form_of, form_by, layout_by}
use Rattle.mr_pages.specs.Saved.{LeavesFile, IsUnsealed}
use Rattle.mr_pages.specs.Source.{told_bytes}
use Rattle.mr_pages.specs.declared.error.MapErr.{MapErr}
use Rattle.mr_pages.specs.declared.error.MapErr.TheVariants as maps
use Rattle.mr_pages.specs.declared.head.MapHead.{MapHead}
use Rattle.mr_pages.specs.declared.layout.Layout.{Layout}
use Rattle.mr_pages.specs.declared.opening.Opened.{Opened}
use Rattle.mr_pages.proofs.Answered.{stands_version, version_by}
use Rattle.mr_store.specs.CachedFile.{state_of, name_of, page_form, bytes_of, OfBytes}
use Rattle.mr_store.specs.Opening.{OpensMap, RefusesMap, TellsMap, page_total}
use Rattle.mr_store.specs.Paged.{shelved, stands_for}
use Rattle.mr_store.specs.Stored.{IsMapOf, map_on, read_map}
use Rattle.mr_store.specs.declared.cached_file.CachedFile.{CachedFile}
use Rattle.mr_store.specs.declared.paged.Paged.{Paged}
use Rattle.mr_batch.specs.Applied.{IsAdmissible}
use Rattle.mr_batch.specs.Changes.{Changes}
use Rattle.mr_batch.specs.Directory.{DirectoryEntries, IsDirectoryOf, HaveNumbers}
use Rattle.mr_batch.specs.Replay.{replay}
use Rattle.mr_batch.specs.declared.admission.BatchFault.{BatchFault}
use Rattle.mr_batch.proofs.Replaying.{numbers_of}
use Rattle.mr_draft.specs.Draft.{DraftState, DraftOf, CopiesMap, CanApply, AppliesBatch, KeepsDraft, SealsMap, SealFails}
use Rattle.mr_draft.proofs.Sizes.{layout_is, pages_most}
use Rattle.mr_edit.specs.Shelves.{HasShelfCause}
use Rattle.mr_edit.specs.declared.error.EditErr.{EditErr}
use Rattle.mr_edit.specs.declared.error.EditErr.TheVariants as edits
use Rattle.mr_journal.specs.Changed.{IsLonger, IsChange}
use Rattle.mr_journal.specs.Format.{page_size}
use Rattle.mr_here.specs.Layers.{lacks_layers}
use Rattle.mr_here.specs.Updated.{map_after, pages_for, IsOneMap, IsNextMap, IsHindered}
use Rattle.mr_here.specs.private.Forming.{of_edit, of_map, of_sealed, HasMade, MakesMap, AdmitsBatch, JudgesBatch, HasEdited, EditsFile, IsFormed}
use Rattle.mr_here.specs.declared.error.HereErr.{HereErr}
use Rattle.mr_here.specs.declared.error.HereErr.TheVariants as errors

-- ---- in memory no page is blamed, and what failed is want of it

pub shelf_only : (before after : ℕ) (e : EditErr) → HasShelfCause before after e → of_edit e ≡ errors.NoMemory
shelf_only before after (edits.Map f) cause = absurd cause
shelf_only before after edits.Missing cause = refl
shelf_only before after edits.Fault cause = refl
shelf_only before after edits.NoMemory cause = refl

-- ---- what is read of a map

pub version_in : (form : Form) (h : MapHead) (o : Option (List ℕ)) → (read_map form h o).version ≡ form.version
version_in form h None = refl
version_in form h (Some bytes) = refl

pub batch_in : (form : Form) (h : MapHead) (o : Option (List ℕ)) → (read_map form h o).batch ≡ h.batch
batch_in form h None = refl
batch_in form h (Some bytes) = refl

no_tree : (t : Tree) → ◌≡◌ {A = Option Tree} None (Some t) → ⊥
no_tree t e = cc

some_tree : (t u : Tree) → Some t ≡ Some u → t ≡ u
some_tree t u e = cc

no_bytes : (bytes : List ℕ) → ◌≡◌ {A = Option (List ℕ)} None (Some bytes) → ⊥
no_bytes bytes e = cc

-- a tree is told only where files are
some_files : (form : Form) (h : MapHead) (o : Option Files) (name : List ℕ) (t : Tree)
    → (read_map form h (told_bytes o name)).tree ≡ Some t → (files : Files) × (o ≡ Some files)
some_files form h None name t told = absurd (no_tree t told)
some_files form h (Some files) name t told = (files, refl)

-- ---- files that are told

-- the named file has these bytes, where files were told that it was set in
set_there : (name bytes : List ℕ) (before after : Option Files) (files : Files) → before ≡ Some files
    → IsChanged (with_file name) bytes before after → told_bytes after name ≡ Some bytes
set_there name bytes before after files is changed =
    ap (λ (o : Option Files). told_bytes o name) (changed ∙ ap (option_map (with_file name bytes)) is)
    ∙ file-with_file name bytes files

set_told : (name bytes : List ℕ) (before after : Option Files) (files : Files) → before ≡ Some files
    → IsChanged (with_file name) bytes before after → (new : Files) × (after ≡ Some new)
set_told name bytes before after files is changed =
    (with_file name bytes files, changed ∙ ap (option_map (with_file name bytes)) is)

left_told : (P : List ℕ → Type 0) (name : List ℕ) (before after : Option Files) (files : Files) → before ≡ Some files
    → LeavesFile P name before after → (new : Files) × (after ≡ Some new)
left_told P name before after files is (inl same) = (files, same ∙ is)
left_told P name before after files is (inr held) = set_told name held.0 before after files is held.2

-- what is known of a file by its bytes, where they are told
found_at : (o : Option (List ℕ)) (Q : Type 0) (P : List ℕ → Type 0) (bytes : List ℕ) → o ≡ Some bytes
    → MatchOption o Q P → P bytes
found_at o Q P bytes is held = subst (λ (x : Option (List ℕ)). MatchOption x Q P) is held

at_bytes : (told : Option Files) (name bytes : List ℕ) (Q : Type 0) (P : List ℕ → Type 0)
    → told_bytes told name ≡ Some bytes → OfFile told name Q P → P bytes
at_bytes None name bytes Q P is held = absurd (no_bytes bytes is)
at_bytes (Some files) name bytes Q P is held = found_at (file files name) Q P bytes is held

-- ---- the changes on a copy

module _ {S : Type 0} {G : shelves.Ghosts S} (hash : List ℕ → List ℕ) (old : CachedFile S G) (h : MapHead)
    (new : List ℕ) (b : Changes) (t : Tree) (told : (map_on old h).tree ≡ Some t) (dir : DirectoryEntries)
    (lists : IsDirectoryOf dir (records t)) (may : IsAdmissible (records t) h.batch b)
    (d : DraftState) (copies : CopiesMap hash old h new d) where
  abbrev version : Version
  version = (map_on old h).version

  abbrev start : Shelved
  start = state_of old

  pub can : CanApply hash d dir b t
  can = record {
    draft = subst (λ (o : Option Tree). IfSome o (DraftOf hash d)) told copies.of_tree;
    directory = lists;
    admissible = subst (λ n. IsAdmissible (records t) n b) (sym copies.at_batch) may;
  }

  module _ (e : DraftState) (dir' : DirectoryEntries) (keeps : KeepsDraft hash d e)
      (applies : AppliesBatch hash d dir b e dir') (at_batch : e.batch ≡ b.number) where
    told_before : (files : Files) × (start.files ≡ Some files)
    told_before = some_files (page_form old) h start.files (name_of old) t told

    told_copy : (files : Files) × (d.shelf.files ≡ Some files)
    told_copy = set_told new copies.bytes start.files d.shelf.files told_before.0 told_before.1 copies.files

    told_draft : (files : Files) × (e.shelf.files ≡ Some files)
    told_draft = left_told (IsUnsealed hash) d.name d.shelf.files e.shelf.files told_copy.0 told_copy.1 keeps.left

    own : (map_on old h).version ≡ old.layout.version
    own = version_in (page_form old) h (bytes_of old)

    laid : e.layout ≡ layout_by version
    laid = keeps.layout ∙ copies.layout ∙ layout_is old.layout old.sized ∙ ap layout_by (sym own)

    version_is : e.layout.version ≡ version
    version_is = ap (λ (l : Layout). l.version) (keeps.layout ∙ copies.layout) ∙ sym own

    abbrev after_tree : Tree
    after_tree = replay t (b ∷ [])

    pub sealed_so : (digest : List ℕ) (after : Shelved) → SealsMap hash e digest after
        → HasMade hash new h.pages (map_in version t h.batch) b after.files digest
    sealed_so digest after seals =
        let a = applies t can in
        let is = seals.map after_tree a.draft in
        record {
          bytes = seals.bytes;
          held = ap (told_bytes after.files) (sym (keeps.name ∙ copies.named))
              ∙ set_there e.name seals.bytes e.shelf.files after.files told_draft.0 told_draft.1 seals.files;
          stands = subst (λ n. IsMapFile hash seals.bytes (map_in version after_tree n)) at_batch
              (subst (λ (l : Layout). IsMap (form_of l) hash seals.bytes after_tree e.batch) laid is.map);
          count = e.pages;
          whole = is.size ∙ ap (λ (l : Layout). e.pages * l.size) laid;
          no_fewer = omega (arith, copies.paged, a.no_fewer);
          no_more = omega (arith, copies.paged, a.no_more);
          digest_is = subst (λ n. digest ≡ root (by version hash) after_tree n) at_batch
              (subst (λ v. digest ≡ root (by v hash) after_tree e.batch) version_is
              (seals.digest_is after_tree a.draft));
        }

    pub sealed : (r : Result (List ℕ) EditErr) (after : Shelved)
        → MatchResult r (λ digest. SealsMap hash e digest after) (SealFails hash e after)
        → MakesMap hash new h.pages (map_in version t h.batch) b after.files (of_sealed r)
    sealed (Ok digest) after seals = sealed_so digest after seals
    sealed (Err error) after fails = shelf_only e.shelf.faults after.faults error fails.cause

-- ---- the batch

module _ {S H : Type 0} {G : shelves.Ghosts S} {K : hashes.Ghosts H} (hash : List ℕ → List ℕ) (p : Paged S H G K)
    (is : OfBytes p.file ⊥ (IsMapOf (page_form p.file) hash (stands_for p))) (t : Tree)
    (told : (stands_for p).tree ≡ Some t) where
  well_at : (o : Option Files) → (shelved p).files ≡ o → (found : Option (List ℕ))
      → told_bytes o (name_of p.file) ≡ found
      → WellFormed t
  well_at None is_none found at =
      absurd (no_tree t (ap (λ o. (read_map (page_form p.file) p.head (told_bytes o (name_of p.file))).tree)
      (sym is_none)
      ∙ told))
  well_at (Some files) is_some None at =
      absurd (no_tree t (ap (λ o. (read_map (page_form p.file) p.head o).tree)
      (sym (ap (λ o. told_bytes o (name_of p.file)) is_some ∙ at)) ∙ told))
  well_at (Some files) is_some (Some bytes) at =
      let found = at_bytes (shelved p).files (name_of p.file) bytes ⊥ (IsMapOf (page_form p.file) hash (stands_for p))
      (ap (λ o. told_bytes o (name_of p.file)) is_some ∙ at) is in
      subst WellFormed (some_tree found.0 t (sym found.1 ∙ told)) found.2.well

  pub well_in : WellFormed t
  well_in = well_at (shelved p).files refl (told_bytes (shelved p).files (name_of p.file)) refl

-- what the directory has, where the batch is judged by it
pub numbers_in : (t : Tree) (dir : DirectoryEntries) → WellFormed t → IsDirectoryOf dir (records t)
    → HaveNumbers dir (records t)
numbers_in t dir well lists = numbers_of dir (records t) well.distinct lists

pub admitted : (hash : List ℕ → List ℕ) (new : List ℕ) (pages : ℕ) (m : Opened) (b : Changes) (told : Option Files)
    (r : Result (List ℕ) HereErr) → IsAdmissible (records m.tree) m.batch b → MakesMap hash new pages m b told r
    → AdmitsBatch hash new pages m b told r
admitted hash new pages m b told (Ok digest) may made = (may, made)
admitted hash new pages m b told (Err (errors.Map f)) may made = made
admitted hash new pages m b told (Err errors.Layer) may made = made
admitted hash new pages m b told (Err (errors.Batch f)) may made = absurd (not_memory f made)
  where
    not_memory : (f : BatchFault) → errors.Batch f ≡ errors.NoMemory → ⊥
    not_memory f e = cc
admitted hash new pages m b told (Err errors.Fault) may made = made
admitted hash new pages m b told (Err errors.NoMemory) may made = made

not_layer : errors.Layer ≡ errors.NoMemory → ⊥
not_layer e = cc

pub judged : (hash : List ℕ → List ℕ) (new : List ℕ) (pages : ℕ) (m : Opened) (b : Changes) (told : Option Files)
    (r : Result (List ℕ) HereErr) → lacks_layers m.version b.list ≡ false → AdmitsBatch hash new pages m b told r
    → JudgesBatch hash new pages m b told r
judged hash new pages m b told (Ok digest) has admits = (has, admits)
judged hash new pages m b told (Err (errors.Map f)) has admits = (has, admits)
judged hash new pages m b told (Err errors.Layer) has admits = absurd (not_layer admits)
judged hash new pages m b told (Err (errors.Batch f)) has admits = (has, admits)
judged hash new pages m b told (Err errors.Fault) has admits = (has, admits)
judged hash new pages m b told (Err errors.NoMemory) has admits = (has, admits)

-- ---- the file

-- the file's first fault, or want of memory
pub unopened_so : (hash : List ℕ → List ℕ) (new : List ℕ) (b : Changes) (name bytes : List ℕ) (before after : Shelved)
    (e : MapErr) → told_bytes before.files name ≡ Some bytes → RefusesMap hash name before after e
    → EditsFile hash new b bytes after.files (Err (of_map e))
unopened_so hash new b name bytes before after (maps.Map f) is refuses =
    (at_bytes before.files name bytes _ (λ x. TellsBytes (form_at x) hash x (Err (maps.Map f))) is
    refuses.answers).answers
unopened_so hash new b name bytes before after maps.Missing is refuses = tt
unopened_so hash new b name bytes before after maps.Fault is refuses = tt
unopened_so hash new b name bytes before after maps.NoMemory is refuses = tt

opened_same : (m n : Opened) → OrFails (Ok m) (Ok n) → m ≡ n
opened_same m n (inl same) = ap opened same
  where
    opened : Result Opened MapErr → Opened
    opened (Ok map) = map
    opened (Err e) = m
opened_same m n (inr fails) = absurd fails

-- a file that stands for a map is read in its version
pub own_version : (hash : List ℕ → List ℕ) (bytes : List ℕ) (m : Opened) → IsMapFile hash bytes m
    → version_of bytes ≡ m.version
own_version hash bytes m is = stands_version m.version hash bytes m.tree m.batch is.stands

-- a map that is told is the one that the bytes stand for
one_in : (hash : List ℕ → List ℕ) (bytes : List ℕ) (m : Opened) → TellsBytes (form_at bytes) hash bytes (Ok m)
    → IsOneMap hash bytes m
one_in hash bytes m tells =
    let own : version_of bytes ≡ m.version = sym (tells.answers.0 ∙ version_by (version_of bytes)) in
    record {
      stands = subst (λ v. IsMap (form_by v) hash bytes m.tree m.batch) own tells.answers.1;
      only = λ n is.
          let same = own_version hash bytes n is in
          let there : IsMap (form_at bytes) hash bytes n.tree n.batch =
          subst (λ v. IsMap (form_by v) hash bytes n.tree n.batch) (sym same) is in
          sym (opened_same m (map_in (form_at bytes).version n.tree n.batch) (tells.map n.tree n.batch there)
          ∙ ap (λ v. map_in v n.tree n.batch) (version_by (version_of bytes) ∙ same));
    }

-- how many pages there are of a size that its version has
counted_by : (v : Version) (bytes : List ℕ) (n : ℕ) → length bytes ≡ n * (form_by v).size → pages_for v bytes ≡ n
counted_by One bytes n whole = omega (arith, whole)
counted_by Two bytes n whole = omega (arith, whole)

size_by : (v : Version) → page_size (version_byte v) ≡ (form_by v).size
unfolding page_size
size_by One = refl
size_by Two = refl

module _ (hash : List ℕ → List ℕ) (new : List ℕ) (b : Changes) (bytes : List ℕ) (m : Opened) (pages : ℕ)
    (one : IsOneMap hash bytes m) (paged : pages ≡ pages_for m.version bytes) (told : Option Files) where
  abbrev next : Opened
  next = map_after m b

  -- the old file has just so many pages
  old_whole : length bytes ≡ pages * (form_by m.version).size
  old_whole =
      let is = one.stands.stands in
      is.size ∙ ap (λ n. n * (form_by m.version).size)
      (sym (paged ∙ counted_by m.version bytes is.head.pages is.size))

  longer_in : (digest : List ℕ) (made : HasMade hash new pages m b told digest)
      → IsLonger (page_size (version_byte m.version)) made.count bytes made.bytes
  longer_in digest made =
      let is = made.stands.stands in
      let count : is.head.pages ≡ made.count =
      sym (counted_by m.version made.bytes is.head.pages is.size)
      ∙ counted_by m.version made.bytes made.count made.whole in
      record {
        some = omega (arith, is.some, count);
        few = omega (arith, is.few, count);
        whole = made.whole ∙ ap (λ n. made.count * n) (sym (size_by m.version));
        longer = omega (
          arith,
          old_whole,
          made.whole,
          pages_most pages made.count (form_by m.version).size
              made.no_fewer,
        );
      }

  next_in : (digest : List ℕ) (made : HasMade hash new pages m b told digest) → IsNextMap hash b m bytes made.bytes
  next_in digest made =
      let count = counted_by m.version made.bytes made.count made.whole in
      record {
        stands = made.stands;
        no_fewer = omega (arith, paged, count, made.no_fewer);
        no_more = omega (arith, paged, count, made.no_more);
      }

  hindered : (e : HereErr) → e ≡ errors.NoMemory → IsHindered hash b bytes e
  hindered e is = subst (IsHindered hash b bytes) (sym is) tt

  pub edited_so : (r : Result (List ℕ) HereErr) → JudgesBatch hash new pages m b told r
      → EditsFile hash new b bytes told r
  edited_so (Ok digest) judges =
      let made = judges.1.1 in
      record {
        map = m;
        bytes = made.bytes;
        held = made.held;
        makes = record {
          one = one;
          layers = judges.0;
          may = judges.1.0;
          next = next_in digest made;
          digest_is = made.digest_is;
        };
        pages = made.count;
        longer = longer_in digest made;
      }
  edited_so (Err (errors.Map f)) judges = hindered (errors.Map f) judges.1
  edited_so (Err errors.Layer) judges = (m, one, judges)
  edited_so (Err (errors.Batch f)) judges = (m, one, judges.0, judges.1)
  edited_so (Err errors.Fault) judges = hindered errors.Fault judges.1
  edited_so (Err errors.NoMemory) judges = tt

module _ {S H : Type 0} {G : shelves.Ghosts S} {K : hashes.Ghosts H} (hash : List ℕ → List ℕ) (new : List ℕ)
    (b : Changes) (name bytes : List ℕ) (before after : Shelved) (p : Paged S H G K) (r : Result (List ℕ) HereErr)
    (is : told_bytes before.files name ≡ Some bytes) (opens : OpensMap hash name before p) where
  abbrev s : MapModel
  s = stands_for p

  pub opened_so : ((t : Tree) → s.tree ≡ Some t
      → JudgesBatch hash new p.head.pages (map_in s.version t p.head.batch) b after.files r)
      → EditsFile hash new b bytes after.files r
  opened_so on =
      let tells = at_bytes before.files name bytes ⊥ (λ x. TellsMap (form_at x) hash s x) is opens.answers in
      let pages = at_bytes before.files name bytes ⊥ (λ x. p.head.pages ≡ page_total x) is opens.pages in
      let m : Opened = map_in s.version tells.0 p.head.batch in
      let one : IsOneMap hash bytes m = one_in hash bytes m
      (subst (λ n. TellsBytes (form_at bytes) hash bytes (Ok (map_in s.version tells.0 n)))
      (batch_in (page_form p.file) p.head (told_bytes (shelved p).files (name_of p.file))) tells.2) in
      edited_so hash new b bytes m p.head.pages one
      (pages ∙ ap (λ v. pages_for v bytes) (own_version hash bytes m one.stands)) after.files r (on tells.0 tells.1)

-- ---- the body of a journal

-- the pages of a file are as many as fit in it
module _ (v : Version) (old new : List ℕ) (pages : ℕ) (is : IsLonger (page_size (version_byte v)) pages old new)
    (size : ℕ) (sized : size ≡ (form_by v).size) where
  counted : length new / size ≡ pages
  counted = ap (λ n. length new / n) sized ∙ counted_by v new pages (is.whole ∙ ap (λ n. pages * n) (size_by v))

  pub few_pages : length new / size ≤ 2 ^ 20
  few_pages = omega (arith, counted, is.few)

  pub longer_by : (byte : ℕ) → byte ≡ version_byte v → IsLonger (page_size byte) (length new / size) old new
  longer_by byte same =
      subst (λ b. IsLonger (page_size b) (length new / size) old new) (sym same)
      (subst (λ n. IsLonger (page_size (version_byte v)) n old new) (sym counted) is)

-- what was edited, in the version in which the old file is read
pub longer_of : (hash : List ℕ → List ℕ) (new : List ℕ) (b : Changes) (old : List ℕ) (told : Option Files)
    (digest : List ℕ) (made : HasEdited hash new b old told digest)
    → IsLonger (page_size (version_byte (version_of old))) made.pages old made.bytes
longer_of hash new b old told digest made =
    subst (λ v. IsLonger (page_size (version_byte v)) made.pages old made.bytes)
    (sym (own_version hash old made.map made.makes.one.stands)) made.longer

pub formed_of : (hash : List ℕ → List ℕ) (new : List ℕ) (b : Changes) (old body : List ℕ) (told : Option Files)
    (digest : List ℕ) (made : HasEdited hash new b old told digest)
    → IsChange (version_byte (version_of old)) old made.bytes body → IsFormed hash b old body digest
formed_of hash new b old body told digest made change = record {
  map = made.map;
  made = made.bytes;
  makes = made.makes;
  change = subst (λ v. IsChange (version_byte v) old made.bytes body)
      (own_version hash old made.map made.makes.one.stands) change;
}
