-- What opening a map comes to.
use Rattle.std.specs.Prelude.{◌≡◌, ⊤, ◌⊎◌, ℕ, ◌+◌, ◌/◌, ◌≤◌, List, length, Some, None, option_map, IfSome, Ok, Err}
use Rattle.mr_outside.specs.Faults.{Rose}
use Rattle.mr_outside.specs.State.{Shelved}
use Rattle.mr_outside.specs.Told.{OfFile, MayMiss}
use Rattle.mr_outside.specs.declared.shelf.Shelf as shelf
use Rattle.mr_outside.specs.Bytes.{AreBytes}
use Rattle.mr_tree.specs.declared.hash.Hashes as hashes
use Rattle.mr_tree.specs.Nodes.{MapModel}
use Rattle.mr_tree.specs.declared.tree.Tree.{Tree}
use Rattle.mr_pages.specs.declared.error.MapErr.{MapErr}
use Rattle.mr_pages.specs.declared.error.MapErr.TheVariants as errors
use Rattle.mr_pages.specs.declared.head.MapHead.{MapHead}
use Rattle.mr_pages.specs.Page.{Form, page_limit}
use Rattle.mr_pages.specs.PageBytes.{form_of}
use Rattle.mr_pages.specs.declared.layout.Layout.{Layout}
use Rattle.mr_pages.specs.File.{File, file_of, form_at}
use Rattle.mr_pages.specs.Faults.{mapfault}
use Rattle.mr_pages.specs.Source.{SaysHead, IsRootIn, AllKept, SaysOnce}
use Rattle.mr_pages.specs.Walking.{child_link, head_of}
use Rattle.mr_pages.specs.Opening.{pages_in, FailsWithoutFault, SomeBytes, SomeFile, TellsBytes}
use Rattle.mr_store.specs.declared.cached_file.CachedFile.{CachedFile}
use Rattle.mr_store.specs.declared.paged.Paged.{Paged}
use Rattle.mr_store.specs.CachedFile.{state_of, name_of, page_form, entries_of}
use Rattle.mr_store.specs.Paged.{shelved, stands_for}
use Rattle.mr_store.specs.private.Paging.{sourced, HoldsPage}

-- how many pages a file of these bytes has
abbrev pub page_total : List ℕ → ℕ
page_total bytes = length bytes / (form_at bytes).size

-- what was checked of a file: page 0 says this, its root is in the file, and there is no fault
pub record WasChecked {S : Type 0} {G : shelf.Ghosts S} (hash : List ℕ → List ℕ)
    (f : CachedFile S G) (h : MapHead) : Type 0 where
  pub says : SaysHead (page_form f).version f.pages h
  pub inside : IfSome h.root (IsRootIn f.pages)
  pub fault : (g : File) → (sourced f).file ≡ Some g → mapfault hash g ≡ None
  pub head : (g : File) → (sourced f).file ≡ Some g → g.head ≡ Ok (head_of h)
  pub kept : (g : File) → (sourced f).file ≡ Some g →
      AllKept g (option_map child_link h.root) (HoldsPage f.pages (entries_of f))

-- the fault is that of the file, where this is told
abbrev pub IsFaultOf : Form → (List ℕ → List ℕ) → Shelved → List ℕ → MapErr → Type 0
IsFaultOf form hash s name (errors.Map f) = OfFile s.files name ⊥
    (λ bytes. mapfault hash (file_of form bytes) ≡ Some f)
IsFaultOf form hash s name _ = ⊤

-- each failure has its cause, and what says something of the file counts no fault
pub record HasWhy (name : List ℕ) (before after : Shelved) (e : MapErr) : Type 0 where
  pub missing : e ≡ errors.Missing → MayMiss before.files name before.faults after.faults
  pub failed : e ≡ errors.Fault → Rose before.faults after.faults
  pub quiet : (after.faults ≡ before.faults) ⊎ FailsWithoutFault (Err e)
  -- and no rule of a page that is read again
  pub once : SaysOnce e

-- some bytes have no fault, and page 0 of these says this
pub record IsOfSome (form : Form) (hash : List ℕ → List ℕ) (h : MapHead) : Type 0 where
  pub bytes : List ℕ
  pub are : AreBytes bytes
  pub fault : mapfault hash (file_of form bytes) ≡ None
  pub head : (file_of form bytes).head ≡ Ok (head_of h)

-- why a map was not opened
pub record Refused (form : Form) (hash : List ℕ → List ℕ) (name : List ℕ)
    (before after : Shelved) (e : MapErr) : Type 0 where
  pub fault : IsFaultOf form hash before name e
  pub some : SomeBytes form hash (Err e)
  pub why : HasWhy name before after e

-- what is told of a map that was opened and stands for this, where its file has these bytes
abbrev pub TellsMap : Form → (List ℕ → List ℕ) → MapModel → List ℕ → Type 0
TellsMap form hash s bytes = (t : Tree) × (s.tree ≡ Some t)
    × TellsBytes form hash bytes (Ok (record { tree = t; version = s.version; batch = s.batch }))

-- no map was opened in a file of so many pages of this layout, whose page 0 was read before
pub record IsOpeningRefused (hash : List ℕ → List ℕ) (name : List ℕ) (layout : Layout) (pages : ℕ)
    (before after : Shelved) (e : MapErr) : Type 0 where
  pub refused : Refused (form_of layout) hash name before after e
  pub files : after.files ≡ before.files
  pub later : before.faults ≤ after.faults
  pub more : before.reads ≤ after.reads
  pub few : after.reads + 1 ≤ before.reads + pages

-- the same of a file with its cache
abbrev pub RefusesFile : {S : Type 0} {G : shelf.Ghosts S} → (List ℕ → List ℕ) →
    CachedFile S G → (after : Shelved) → MapErr → Type 0
RefusesFile hash f after e = IsOpeningRefused hash (name_of f) f.layout f.pages (state_of f) after e

module _ {S H : Type 0} {G : shelf.Ghosts S} {K : hashes.Ghosts H} where
  -- one was opened there: reads rose by the pages behind page 0 at most, and no fault was counted
  pub record IsOpened (hash : List ℕ → List ℕ) (name : List ℕ) (layout : Layout) (pages : ℕ)
      (before : Shelved) (p : Paged S H G K) : Type 0 where
    pub answers : OfFile before.files name ⊥ (TellsMap (form_of layout) hash (stands_for p))
    pub some : IsOfSome (form_of layout) hash p.head
    pub named : name_of p.file ≡ name
    pub laid : p.file.layout ≡ layout
    pub count : p.head.pages ≡ pages
    pub files : (shelved p).files ≡ before.files
    pub quiet : (shelved p).faults ≡ before.faults
    pub more : before.reads ≤ (shelved p).reads
    pub few : (shelved p).reads + 1 ≤ before.reads + pages
    pub none : p.fetches ≡ 0

  abbrev pub OpensFile : (List ℕ → List ℕ) → CachedFile S G → Paged S H G K → Type 0
  OpensFile hash f p = IsOpened hash (name_of f) f.layout f.pages (state_of f) p

  -- The map was opened, under this name: it stands for the one map that the file stands for, in
  -- the version that the file is read in, and has as many pages. Each of them was read once at
  -- most, no fault was counted, and nothing was fetched yet.
  pub record OpensMap (hash : List ℕ → List ℕ) (name : List ℕ) (before : Shelved)
      (p : Paged S H G K) : Type 0 where
    pub answers : OfFile before.files name ⊥
        (λ bytes. TellsMap (form_at bytes) hash (stands_for p) bytes)
    -- told or not, it is the map of some bytes
    pub some : IsOfSome (page_form p.file) hash p.head
    pub same : name_of p.file ≡ name
    pub pages : OfFile before.files name ⊥ (λ bytes. p.head.pages ≡ page_total bytes)
    pub files : (shelved p).files ≡ before.files
    pub quiet : (shelved p).faults ≡ before.faults
    pub more : before.reads ≤ (shelved p).reads
    pub few : (shelved p).reads ≤ before.reads + p.head.pages
    pub reads : OfFile before.files name ⊥
        (λ bytes. (shelved p).reads ≤ before.reads + pages_in bytes)
    pub none : p.fetches ≡ 0

-- why a file was not opened, which is read in the version that its bytes tell
pub record RefusesFront (hash : List ℕ → List ℕ) (name : List ℕ) (before after : Shelved)
    (e : MapErr) : Type 0 where
  pub answers : OfFile before.files name (FailsWithoutFault (Err e))
      (λ bytes. TellsBytes (form_at bytes) hash bytes (Err e))
  -- told or not, a fault is the first of some bytes
  pub some : SomeFile hash (Err e)
  pub why : HasWhy name before after e

-- It was not, for this reason: the fault of the file where it has one, else a failure with its
-- cause.
pub record RefusesMap (hash : List ℕ → List ℕ) (name : List ℕ) (before after : Shelved)
    (e : MapErr) : Type 0 where
  pub answers : OfFile before.files name (FailsWithoutFault (Err e))
      (λ bytes. TellsBytes (form_at bytes) hash bytes (Err e))
  -- told or not, a fault is the first of some bytes
  pub some : SomeFile hash (Err e)
  pub why : HasWhy name before after e
  pub files : after.files ≡ before.files
  pub later : before.faults ≤ after.faults
  pub more : before.reads ≤ after.reads
  pub few : after.reads ≤ before.reads + page_limit
  pub reads : OfFile before.files name (after.reads ≡ before.reads)
      (λ bytes. after.reads ≤ before.reads + pages_in bytes)
