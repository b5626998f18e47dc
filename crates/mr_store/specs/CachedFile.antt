-- A file of pages on a shelf, and the nodes of it that are kept.
use Rattle.std.specs.Prelude.{◌≡◌, ⊤, ℕ, List, Contains, Option, Result}
use Rattle.std.specs.String.{string_bytes}
use Rattle.mr_outside.specs.State.{Shelved}
use Rattle.mr_outside.specs.Told.{OfFile}
use Rattle.mr_outside.specs.declared.shelf.Shelf.{Ghosts}
use Rattle.mr_tree.specs.Digest.{Scheme, by}
use Rattle.mr_tree.specs.View as view
use Rattle.mr_tree.specs.declared.child.Child.{Child}
use Rattle.mr_tree.specs.declared.nodes.NodesErr.{NodesErr}
use Rattle.mr_pages.specs.Page.{Form}
use Rattle.mr_pages.specs.PageBytes.{form_of}
use Rattle.mr_pages.specs.Source.{told_bytes, IsPage, TellsPage}
use Rattle.mr_store.specs.declared.cached_file.CachedFile.{CachedFile}
use Rattle.mr_store.specs.declared.cached_node.CachedNode.{CachedNode}
use Rattle.mr_store.specs.Kept as cache
use Rattle.mr_store.specs.Again as again

module _ {S : Type 0} {G : Ghosts S} where
  -- the shelf's files, where they are told, and its counts
  abbrev pub state_of : CachedFile S G → Shelved
  state_of f = G.state f.shelf

  abbrev pub name_of : CachedFile S G → List ℕ
  name_of f = string_bytes f.name

  -- how its pages are spelled
  abbrev pub page_form : CachedFile S G → Form
  page_form f = form_of f.layout

  -- its bytes, where they are told
  abbrev pub bytes_of : CachedFile S G → Option (List ℕ)
  bytes_of f = told_bytes (state_of f).files (name_of f)

  -- where the files are told: P of its bytes, or this where it is not there
  abbrev pub OfBytes : CachedFile S G → (absent : Type 0) → (P : List ℕ → Type 0) → Type 0
  OfBytes f absent P = OfFile (state_of f).files (name_of f) absent P

  -- a hash function and the file's version
  abbrev pub scheme_of : (List ℕ → List ℕ) → CachedFile S G → Scheme
  scheme_of hash f = by f.layout.version hash

  -- ---- the nodes that are kept

  abbrev pub entries_of : CachedFile S G → cache.CacheEntries
  entries_of f = f.cache.entries

  -- all that are kept can be shown
  abbrev pub AreShown : CachedFile S G → Type 0
  AreShown f = (e : ℕ × CachedNode) → Contains (entries_of f) e → cache.IsShown e.1

  -- the page of the child is kept, with its level and its digest
  abbrev pub IsHeld : CachedFile S G → Child → Type 0
  IsHeld f c = cache.IsHeld (entries_of f) c

  -- ---- what calls leave

  -- the name, the layout and how many pages there are
  pub record IsSameFile (f f' : CachedFile S G) : Type 0 where
    pub name : f'.name ≡ f.name
    pub layout : f'.layout ≡ f.layout
    pub pages : f'.pages ≡ f.pages

  -- all but the shelf, which has the same files
  pub record OnlyReads (f f' : CachedFile S G) : Type 0 where
    pub file : IsSameFile f f'
    pub cache : f'.cache ≡ f.cache
    pub files : (state_of f').files ≡ (state_of f).files

  -- all but what is kept, of which there is room for as much
  pub record OnlyKeeps (f f' : CachedFile S G) : Type 0 where
    pub file : IsSameFile f f'
    pub shelf : f'.shelf ≡ f.shelf
    pub cap : f'.cache.cap ≡ f.cache.cap

  -- ---- what pages give

  -- some bytes were read of the page, and this is what a free page of these names
  pub record GivesFree (f : CachedFile S G) (page : ℕ) (next : Option ℕ) : Type 0 where
    pub bytes : List ℕ
    pub is : IsPage (page_form f) bytes
    pub told : OfBytes f ⊥ (TellsPage (page_form f) page bytes)
    pub free : next ≡ (page_form f).free_in bytes

  -- ---- a node's page is read again

  -- the view shows a node of the file's version with the level and the digest of the child, whose
  -- children are in the file
  abbrev pub IsRead : (List ℕ → List ℕ) → CachedFile S G → Child → view.Node → Type 0
  IsRead hash f c n = again.IsChildInFile (scheme_of hash f) f.pages c n

  -- where the file is told, and the node on the child's page is what is said of it, that is shown
  abbrev pub TellsNode : {A : Type 0} → (List ℕ → List ℕ) → CachedFile S G → Child →
      Result A NodesErr → view.Node → Type 0
  TellsNode hash f c result n =
      OfBytes f ⊤ (again.TellsAgain (page_form f) hash f.pages c result n)

  -- where the file is told, it has on this page the node that is shown
  abbrev pub HasNode : CachedFile S G → (page : ℕ) → view.Node → Type 0
  HasNode f page n = OfBytes f ⊤ (again.HasNode (page_form f) f.pages page n)

  -- some bytes of a page are refused just so
  abbrev pub IsGiven : (List ℕ → List ℕ) → CachedFile S G → Child → NodesErr → Type 0
  IsGiven hash f c e = again.IsGiven (page_form f) hash f.pages c e

  -- why the child's node is not shown: what was read is blamed only where a read was counted
  abbrev pub IsRefused : Child → CachedFile S G → CachedFile S G → NodesErr → Type 0
  IsRefused c f f' e = again.IsFetchRefused f.pages (name_of f) c (state_of f) (state_of f') e
