-- A draft of a map: a copy of its file on whose pages changes are made, until it is sealed.
use Rattle.std.specs.Prelude.{◌≡◌, ◌⊎◌, ℕ, ◌+◌, ◌*◌, ◌<◌, ◌≤◌, max, List, [], ◌∷◌, ◌++◌, length, drop, Option, Some, None, option_map, IfSome}
use Rattle.mr_outside.specs.Files.{with_file}
use Rattle.mr_outside.specs.State.{Shelved}
use Rattle.mr_outside.specs.Writing.{IsChanged}
use Rattle.mr_outside.specs.declared.shelf.Shelf as shelf
use Rattle.mr_tree.specs.Digest.{by, root}
use Rattle.mr_tree.specs.Limits.{count_limit}
use Rattle.mr_tree.specs.Tree.{records}
use Rattle.mr_tree.specs.WellFormed.{WellFormed}
use Rattle.mr_tree.specs.declared.child.Child.{Child}
use Rattle.mr_tree.specs.declared.hash.Hashes as hashes
use Rattle.mr_tree.specs.declared.tree.Tree.{Tree}
use Rattle.mr_pages.specs.Law.{IsMap}
use Rattle.mr_pages.specs.Page.{Head}
use Rattle.mr_pages.specs.declared.layout.Layout.{Layout}
use Rattle.mr_pages.specs.PageBytes.{form_of}
use Rattle.mr_pages.specs.Saved.{IsUnsealed, LeavesFile}
use Rattle.mr_pages.specs.Walking.{child_link}
use Rattle.mr_pages.specs.declared.head.MapHead.{MapHead}
use Rattle.mr_pages.specs.declared.rule.MapRule.TheVariants as rule
use Rattle.mr_store.specs.CachedFile.{state_of, name_of, bytes_of}
use Rattle.mr_store.specs.Stored.{map_on}
use Rattle.mr_store.specs.declared.cached_file.CachedFile.{CachedFile}
use Rattle.mr_batch.specs.Applied.{IsAdmissible}
use Rattle.mr_batch.specs.Changes.{Changes}
use Rattle.mr_batch.specs.Directory.{DirectoryEntries, IsDirectoryOf}
use Rattle.mr_batch.specs.Peak.{peak}
use Rattle.mr_batch.specs.Replay.{replay}
use Rattle.mr_edit.specs.Drafted.{Drafted}
use Rattle.mr_edit.specs.Outcome.{IsLow, IsOfRoot, root_page}
use Rattle.mr_edit.specs.PageMap.{PageMap}
use Rattle.mr_edit.specs.Replayed.{OnPages, first_changes}
use Rattle.mr_draft.specs.Sheets.{page_map_on, zeros}
use Rattle.mr_edit.specs.Shelves.{HasShelfCause}
use Rattle.mr_draft.specs.declared.draft.Draft.{Draft}
use Rattle.mr_edit.specs.declared.error.EditErr.{EditErr}
use Rattle.mr_edit.specs.declared.error.EditErr.TheVariants as errors

-- what is known of a draft at one moment
pub record DraftState : Type 0 where
  -- the shelf, and the file on it
  pub shelf : Shelved
  pub name : List ℕ
  pub layout : Layout
  -- how many pages the file has, and the first free one
  pub pages : ℕ
  pub free : ℕ
  pub root : Option Child
  -- of records
  pub count : ℕ
  pub batch : ℕ

-- that of a file with these
abbrev pub draft_state : {S : Type 0} {G : shelf.Ghosts S} → CachedFile S G → (free : ℕ) → Option
    Child →
    (count batch : ℕ) → DraftState
draft_state f free root count batch = record {
  shelf = state_of f;
  name = name_of f;
  layout = f.layout;
  pages = f.pages;
  free = free;
  root = root;
  count = count;
  batch = batch;
}

module _ {S H : Type 0} {G : shelf.Ghosts S} {K : hashes.Ghosts H} where
  abbrev pub draft_of : Draft S H G K → DraftState
  draft_of d = draft_state d.sheets.file d.free d.root d.count d.batch

  -- the shelf's files, where they are told, and its counts
  abbrev pub shelved : Draft S H G K → Shelved
  shelved d = state_of d.sheets.file

-- what page 0 is to say
abbrev pub head_in_draft : DraftState → Head
head_in_draft d = record {
  batch = d.batch;
  count = d.count;
  pages = d.pages;
  root = option_map child_link d.root;
  free = d.free;
}

-- the draft stands for this tree, which is well formed
pub record DraftOf (hash : List ℕ → List ℕ) (d : DraftState) (t : Tree) : Type 0 where
  pub drafted : Drafted (by d.layout.version hash)
      (page_map_on (form_of d.layout) d.shelf.files d.name d.pages) d.free d.root t
  pub well : WellFormed t
  pub counted : d.count ≡ length (records t)

-- a map may have so many records and this root
abbrev pub IsTop : (count : ℕ) → Option Child → Type 0
IsTop count None = count ≡ 0
IsTop count (Some c) = (0 < count) × (count ≤ count_limit)

-- it may not, and the page of the root is blamed for it, page 0 where there is none
abbrev pub IsOff : (count : ℕ) → Option Child → EditErr → Type 0
IsOff count root (errors.Map fault) =
    (fault.rule ≡ rule.Page) × (fault.page ≡ root_page root) × (IsTop count root → ⊥)
IsOff count root e = ⊥

-- ---- a map is copied

-- The map in a file whose page 0 says this was copied: the draft is of its tree, where that is
-- told, and of its version, and has its batch, its root, its count, its first free page and as many
-- pages; the file that was made is not sealed, and each other file is as before. There were no more
-- reads than pages.
pub record CopiesMap {S : Type 0} {G : shelf.Ghosts S} (hash : List ℕ → List ℕ)
    (old : CachedFile S G)
    (h : MapHead) (new : List ℕ) (d : DraftState) : Type 0 where
  pub of_tree : IfSome (map_on old h).tree (DraftOf hash d)
  pub named : d.name ≡ new
  pub layout : d.layout ≡ old.layout
  pub at_batch : d.batch ≡ h.batch
  pub paged : d.pages ≡ h.pages
  pub root : d.root ≡ h.root
  pub free : d.free ≡ h.free
  pub count : d.count ≡ h.count
  -- told or not, no higher than a map's root may be
  pub low : IsLow d.root
  pub bytes : List ℕ
  -- page 0 is zeros, and each other page as in the map's file, where that is told
  pub others : List ℕ
  pub blank : bytes ≡ zeros old.layout.size ++ others
  pub same : IfSome (bytes_of old) (λ was. others ≡ drop old.layout.size was)
  pub unsealed : IsUnsealed hash bytes
  pub files : IsChanged (with_file new) bytes (state_of old).files d.shelf.files
  pub quiet : d.shelf.faults ≡ (state_of old).faults
  pub more : (state_of old).reads ≤ d.shelf.reads
  pub few : d.shelf.reads ≤ (state_of old).reads + h.pages

-- It was not: the files are as before, or the one that was made is not sealed. That a file is
-- missing comes only where none is told.
pub record CopyFails (hash : List ℕ → List ℕ) (h : MapHead) (before : Shelved) (new : List ℕ)
    (after : Shelved) (e : EditErr) : Type 0 where
  pub left : LeavesFile (IsUnsealed hash) new before.files after.files
  pub cause : HasShelfCause before.faults after.faults e
  pub untold : e ≡ errors.Missing → before.files ≡ None
  pub later : before.faults ≤ after.faults
  pub more : before.reads ≤ after.reads
  pub few : after.reads ≤ before.reads + h.pages

-- ---- a batch is applied

-- the draft is of this tree, of which this is the directory, and the batch may be applied to it
pub record CanApply (hash : List ℕ → List ℕ) (d : DraftState) (dir : DirectoryEntries) (b : Changes)
    (t : Tree) : Type 0 where
  pub draft : DraftOf hash d t
  pub directory : IsDirectoryOf dir (records t)
  pub admissible : IsAdmissible (records t) d.batch b

-- The draft is then of the tree after the batch, and the directory is that tree's. There are no
-- fewer pages, and no more than there were, or than the most nodes so far and page 0.
pub record Applied (hash : List ℕ → List ℕ) (before : DraftState) (b : Changes) (t : Tree)
    (after : DraftState) (dir : DirectoryEntries) : Type 0 where
  pub draft : DraftOf hash after (replay t (b ∷ []))
  pub directory : IsDirectoryOf dir (records (replay t (b ∷ [])))
  pub no_fewer : before.pages ≤ after.pages
  pub no_more : after.pages ≤ max before.pages (peak t b + 1)

abbrev pub AppliesBatch : (List ℕ → List ℕ) → (before : DraftState) → (dir : DirectoryEntries) →
    Changes →
    (after : DraftState) → (dir' : DirectoryEntries) → Type 0
AppliesBatch hash before dir b after dir' =
    (t : Tree) → CanApply hash before dir b t → Applied hash before b t after dir'

-- A change was refused. So many were made before it, as a batch of these alone: wherever that may
-- be applied, root and directory are those of the tree after it. The pages and the first free page
-- beside them are those that the refused change met, which may have changed them. Count and batch
-- are those from before. No page is blamed where the refused change could have been made too, and
-- page 0 is said to be none that may stand there only where the root's page is 0.
pub record StopsAtChange (hash : List ℕ → List ℕ) (before : DraftState) (dir : DirectoryEntries)
    (b : Changes) (after : DraftState) (dir' : DirectoryEntries) (e : EditErr) : Type 0 where
  pub made : ℕ
  pub fewer : made < length b.list
  pub told_then : Option PageMap
  pub free_then : ℕ
  pub stands : (t : Tree) → CanApply hash before dir (first_changes made b) t →
      OnPages (by before.layout.version hash) told_then free_then after.root dir'
      (replay t (first_changes made b ∷ [])) before.pages before.pages
      (peak t (first_changes made b))
  -- told or not, both are the very ones of before where the first change is refused
  pub unmoved : made ≡ 0 → (after.root ≡ before.root) × (dir' ≡ dir)
  pub count : after.count ≡ before.count
  pub batch : after.batch ≡ before.batch
  pub blames_none_told : (t : Tree) → CanApply hash before dir (first_changes (made + 1) b) t →
      HasShelfCause before.shelf.faults after.shelf.faults e
  pub page : IsOfRoot (root_page after.root) e

-- All changes were made, and a map may not have so many records and this root.
pub record StopsAtCount (number : ℕ) (after : DraftState) (e : EditErr) : Type 0 where
  pub batch : after.batch ≡ number
  pub off : IsOff after.count after.root e

-- one of the two
abbrev pub StopsBatch : (List ℕ → List ℕ) → (before : DraftState) → (dir : DirectoryEntries) →
    Changes →
    (after : DraftState) → (dir' : DirectoryEntries) → EditErr → Type 0
StopsBatch hash before dir b after dir' e =
    StopsAtChange hash before dir b after dir' e ⊎ StopsAtCount b.number after e

-- Whatever was answered, the file is laid out as before and not sealed, and each other file is as
-- before.
pub record KeepsDraft (hash : List ℕ → List ℕ) (before after : DraftState) : Type 0 where
  pub name : after.name ≡ before.name
  pub layout : after.layout ≡ before.layout
  pub pages : before.pages ≤ after.pages
  pub left : LeavesFile (IsUnsealed hash) before.name before.shelf.files after.shelf.files
  pub faults : before.shelf.faults ≤ after.shelf.faults
  pub reads : before.shelf.reads ≤ after.shelf.reads

-- ---- a draft is sealed

-- the file of these bytes stands for the draft's tree at its batch, and has as many pages
pub record IsSealed (hash : List ℕ → List ℕ) (d : DraftState) (t : Tree) (bytes : List ℕ) : Type
    0 where
  pub map : IsMap (form_of d.layout) hash bytes t d.batch
  pub size : length bytes ≡ d.pages * d.layout.size

-- The file now stands for whatever tree the draft was of, and this is the map's root digest.
pub record SealsMap (hash : List ℕ → List ℕ) (d : DraftState) (digest : List ℕ) (after : Shelved)
    : Type 0 where
  pub bytes : List ℕ
  pub files : IsChanged (with_file d.name) bytes d.shelf.files after.files
  pub map : (t : Tree) → DraftOf hash d t → IsSealed hash d t bytes
  pub digest_is : (t : Tree) → DraftOf hash d t → digest ≡ root (by d.layout.version hash) t d.batch
  pub quiet : after.faults ≡ d.shelf.faults

-- what a seal that is refused may leave: no map yet, or all
abbrev pub MayBeSealed : (List ℕ → List ℕ) → DraftState → (bytes : List ℕ) → Type 0
MayBeSealed hash d bytes =
    IsUnsealed hash bytes ⊎ ((t : Tree) → DraftOf hash d t → IsSealed hash d t bytes)

-- It was not sealed.
pub record SealFails (hash : List ℕ → List ℕ) (d : DraftState) (after : Shelved) (e : EditErr)
    : Type 0 where
  pub left : LeavesFile (MayBeSealed hash d) d.name d.shelf.files after.files
  pub cause : HasShelfCause d.shelf.faults after.faults e
  pub later : d.shelf.faults ≤ after.faults
