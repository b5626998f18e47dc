-- A file of pages under edit on a shelf, and the nodes of it that are kept.
use Rattle.std.specs.Prelude.{◌≡◌, ◌≢◌, ⊤, ◌⊎◌, ℕ, ◌+◌, ◌-◌, ◌*◌, ◌≤◌, ◌==◌, if◌then◌else◌, List, [], ◌++◌, length, take, drop, replicate, Contains, Option, Some, None, IfSome, IsSome, MatchOption}
use Rattle.std.specs.Option.{option_and_then}
use Rattle.mr_outside.specs.Bytes.{AreBytes}
use Rattle.mr_outside.specs.Files.{Files, file, with_file}
use Rattle.mr_outside.specs.State.{Shelved}
use Rattle.mr_outside.specs.Writing.{IsChanged}
use Rattle.mr_outside.specs.declared.shelf.Shelf.{Ghosts}
use Rattle.mr_tree.specs.Digest.{Scheme, by}
use Rattle.mr_tree.specs.View.{AreTold, level_of, preimage_of}
use Rattle.mr_tree.specs.Snapshot.{HasShape}
use Rattle.mr_tree.specs.declared.child.Child.{Child}
use Rattle.mr_tree.specs.declared.nodes.NodesErr.{NodesErr}
use Rattle.mr_tree.specs.declared.nodes.NodesErr.TheVariants as nodes
use Rattle.mr_pages.specs.Page.{Form, page_limit}
use Rattle.mr_pages.specs.declared.layout.Layout.{Layout}
use Rattle.mr_pages.specs.PageBytes.{form_of, layout_by}
use Rattle.mr_pages.specs.File.{page_at}
use Rattle.mr_pages.specs.Saved.{LeavesFile}
use Rattle.mr_pages.specs.Source.{told_bytes}
use Rattle.mr_pages.specs.Walking.{page_node}
use Rattle.mr_store.specs.Again.{IsGiven}
use Rattle.mr_store.specs.CachedFile.{IsSameFile, state_of, name_of, page_form, entries_of}
use Rattle.mr_store.specs.Kept.{CacheEntries, node_of, room}
use Rattle.mr_store.specs.declared.cached_file.CachedFile.{CachedFile}
use Rattle.mr_store.specs.declared.cached_node.CachedNode.{CachedNode}
use Rattle.mr_edit.specs.PageMap.{PageContent, PageMap, HasNode}
use Rattle.mr_edit.specs.Shelves.{HasShelfCause, of_nodes}
use Rattle.mr_edit.specs.declared.error.EditErr.{EditErr}
use Rattle.mr_edit.specs.declared.error.EditErr.TheVariants as errors

-- ---- the pages

-- what a page of these bytes is read as
unfoldable pub content_of : Form → List ℕ → PageContent
content_of form page = record { node = form.node_in page; free = form.free_in page }

-- so many pages, if the file has just these
abbrev pub page_map_in : Form → (pages : ℕ) → List ℕ → Option PageMap
page_map_in form pages bytes =
    if length bytes == pages * form.size
    then Some (record { size = pages; content = λ p. content_of form (page_at form bytes p) })
    else None

-- the same of a file on a shelf, where it is told
abbrev pub page_map_on : Form → Option Files → (name : List ℕ) → (pages : ℕ) → Option PageMap
page_map_on form told name pages = option_and_then (page_map_in form pages) (told_bytes told name)

-- so many zeros
unfoldable pub zeros : ℕ → List ℕ
zeros n = replicate n 0

-- these bytes are so many pages at least, of which page 0 is not yet written
pub record HasUnsealedPages (form : Form) (pages : ℕ) (bytes : List ℕ) : Type 0 where
  pub some : 1 ≤ pages
  pub few : pages ≤ page_limit
  pub are : AreBytes bytes
  pub long : pages * form.size ≤ length bytes
  pub blank : page_at form bytes 0 ≡ zeros form.size

-- a file that is told is there, and has such bytes
pub record ArePages (form : Form) (told : Option Files) (name : List ℕ) (pages : ℕ) : Type 0 where
  pub there : MatchOption told ⊤ (λ files. IsSome (file files name))
  pub have : IfSome (told_bytes told name) (HasUnsealedPages form pages)

-- ---- the nodes that are kept

-- what is kept of a page can be shown, and has its level and its digest
pub record IsKeptAs (s : Scheme) (k : CachedNode) : Type 0 where
  pub shape : HasShape (node_of k.node)
  pub level : level_of (node_of k.node) ≡ k.level
  -- what its version may tell
  pub told : AreTold s.version (node_of k.node)
  pub digest : s.of (preimage_of s.version (node_of k.node)) ≡ k.digest

-- each page that is kept holds what is kept of it
abbrev pub AreOn : CacheEntries → PageMap → Type 0
AreOn es b = (e : ℕ × CachedNode) → Contains es e → HasNode b e.0 (page_node (node_of e.1.node))

-- the same where the pages are told
pub record AreKept (s : Scheme) (told : Option PageMap) (es : CacheEntries) (cap : ℕ) : Type 0 where
  pub cap_is : cap ≡ room
  pub each : (e : ℕ × CachedNode) → Contains es e → IsKeptAs s e.1
  pub on : IfSome told (AreOn es)

-- why a read of the child's node is refused, in a change's own words: what was read is refused just
-- as some bytes of a page are, or the child's page is not in the file
pub record RefusesRead (form : Form) (hash : List ℕ → List ℕ) (pages : ℕ) (c : Child) (e : EditErr)
    : Type 0 where
  pub error : NodesErr
  pub is : e ≡ of_nodes error
  pub given : IsGiven form hash pages c error
      ⊎ ((error ≡ nodes.Outside c.id) × (1 ≤ c.id → pages ≤ c.id))

-- ---- what calls leave

-- each page but this one is as before, where pages are still told
abbrev pub ChangesPage : (page : ℕ) → (before after : Option PageMap) → Type 0
ChangesPage page before after = IfSome after (λ b. (a : PageMap) × (before ≡ Some a)
    × ((q : ℕ) → q ≢ page → b.content q ≡ a.content q))

-- the pages are told no more, or are as before
abbrev pub LosesPages : (before after : Option PageMap) → Type 0
LosesPages before after = (after ≡ None) ⊎ (after ≡ before)

-- ---- pages are copied from one file to another

-- a file was made, and is empty
pub record HasMadeEmpty (new : List ℕ) (before after : Shelved) : Type 0 where
  pub files : IsChanged (with_file new) [] before.files after.files
  pub quiet : after.faults ≡ before.faults
  pub reads : after.reads ≡ before.reads

-- the other file has page 0 as zeros, and those of this one from page 1 up to this page
pub record HasCopied (form : Form) (old new : List ℕ) (pages page : ℕ) (before after : Shelved)
    : Type 0 where
  pub some : 1 ≤ page
  pub nodes : List ℕ
  pub files : IsChanged (with_file new) (zeros form.size ++ nodes) before.files after.files
  pub so_far : (bytes : List ℕ) → told_bytes before.files old ≡ Some bytes →
      length bytes ≡ pages * form.size →
      nodes ≡ take ((page - 1) * form.size) (drop form.size bytes)
  pub quiet : after.faults ≡ before.faults
  pub more : before.reads ≤ after.reads
  pub few : after.reads + 1 ≤ before.reads + page

-- so far, and these bytes were read behind that
pub record WasRead (form : Form) (old new : List ℕ) (pages page : ℕ) (piece : List ℕ)
    (before after : Shelved) : Type 0 where
  pub some : 1 ≤ page
  pub nodes : List ℕ
  pub files : IsChanged (with_file new) (zeros form.size ++ nodes) before.files after.files
  pub so_far : (bytes : List ℕ) → told_bytes before.files old ≡ Some bytes →
      length bytes ≡ pages * form.size →
      nodes ++ piece ≡ take ((page - 1) * form.size + length piece) (drop form.size bytes)
  pub quiet : after.faults ≡ before.faults
  pub more : before.reads ≤ after.reads
  pub few : after.reads ≤ before.reads + page

-- a front of a page of zeros and what is behind it
abbrev pub IsFrontOfZeros : (size : ℕ) → (bytes : List ℕ) → Type 0
IsFrontOfZeros size bytes =
    (nodes : List ℕ) × (rest : List ℕ) × (zeros size ++ nodes ≡ bytes ++ rest)

-- it was not copied; that a file is missing comes only where none is told
pub record CopyStops (form : Form) (new : List ℕ) (pages : ℕ) (before after : Shelved) (e : EditErr)
    : Type 0 where
  pub left : LeavesFile (IsFrontOfZeros form.size) new before.files after.files
  pub cause : HasShelfCause before.faults after.faults e
  pub untold : e ≡ errors.Missing → before.files ≡ None
  pub later : before.faults ≤ after.faults
  pub more : before.reads ≤ after.reads
  pub few : after.reads ≤ before.reads + pages

-- a file that is told is there
abbrev pub IsFiled : Option Files → (name : List ℕ) → Type 0
IsFiled told name = MatchOption told ⊤ (λ files. IsSome (file files name))

-- What is known of a file under edit, whether or not it is told: it is laid out as its version has
-- it, and has so many pages.
pub record AreSheets (hash : List ℕ → List ℕ) (layout : Layout) (told : Option Files)
    (name : List ℕ) (pages : ℕ) (es : CacheEntries) (cap : ℕ) : Type 0 where
  pub sized : layout.size ≡ (layout_by layout.version).size
  pub few : pages ≤ page_limit
  pub file_ : ArePages (form_of layout) told name pages
  pub kept : AreKept (by layout.version hash) (page_map_on (form_of layout) told name pages) es cap

-- ---- the file of a draft

module _ {S : Type 0} {G : Ghosts S} where
  -- its pages, where they are told
  abbrev pub page_map_of : CachedFile S G → Option PageMap
  page_map_of f = page_map_on (page_form f) (state_of f).files (name_of f) f.pages

  -- a file that is told is there, and has as many pages
  abbrev pub HasAllPages : CachedFile S G → Type 0
  HasAllPages f = ArePages (page_form f) (state_of f).files (name_of f) f.pages

  -- what is known of it
  abbrev pub IsSheets : (List ℕ → List ℕ) → CachedFile S G → Type 0
  IsSheets hash f =
      AreSheets hash f.layout (state_of f).files (name_of f) f.pages (entries_of f) f.cache.cap

  -- What calls leave: the name, the layout, and each other file; the pages and the counts do not
  -- fall.
  pub record KeepsSheets (f f' : CachedFile S G) : Type 0 where
    pub name : name_of f' ≡ name_of f
    pub layout : f'.layout ≡ f.layout
    pub pages : f.pages ≤ f'.pages
    pub files : LeavesFile (λ bytes. ⊤) (name_of f) (state_of f).files (state_of f').files
    pub faults : (state_of f).faults ≤ (state_of f').faults
    pub reads : (state_of f).reads ≤ (state_of f').reads

  -- the same through the reference of this name
  pub record KeepsLent (n n' : ℕ) (f f' : CachedFile S G) : Type 0 where
    pub same : n' ≡ n
    pub file : KeepsSheets f f'

  -- the name, the layout and how many pages there are, and all that is kept
  pub record OnlyWrites (f f' : CachedFile S G) : Type 0 where
    pub file : IsSameFile f f'
    pub cache : f'.cache ≡ f.cache
