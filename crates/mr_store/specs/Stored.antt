-- What is known of an opened map.
use Rattle.std.specs.Prelude.{◌≡◌, ℕ, ◌+◌, ◌<◌, ◌≤◌, ◌↔◌, ⊤, List, length, Contains, Option, Some, None, option_map, IfSome, IsSome, IsNone, MatchOption, Ok, nat_eq}
use Rattle.std.specs.Map.{lookup}
use Rattle.mr_outside.specs.Files.{Files, file}
use Rattle.mr_outside.specs.declared.shelf.Shelf.{Ghosts}
use Rattle.mr_outside.specs.Bytes.{AreBytes}
use Rattle.mr_record.specs.declared.version.Version.{Version}
use Rattle.mr_record.specs.Version as version
use Rattle.mr_tree.specs.Limits.{count_limit, level_limit}
use Rattle.mr_tree.specs.Digest.{by, entry}
use Rattle.mr_tree.specs.Nodes.{MapModel, subtrees}
use Rattle.mr_tree.specs.View.{MayTell, child_entry}
use Rattle.mr_tree.specs.Snapshot.{snapshot_model, tree_model}
use Rattle.mr_tree.specs.declared.nodes.Top.{Top}
use Rattle.mr_tree.specs.declared.stored.Stored.{Stored}
use Rattle.mr_tree.specs.declared.tree.Tree.{Tree}
use Rattle.mr_tree.specs.Tree.{records}
use Rattle.mr_tree.specs.WellFormed.{WellFormed, HasLayers}
use Rattle.mr_pages.specs.Law.{IsMap}
pub use Rattle.mr_pages.specs.Source.{told_bytes}
use Rattle.mr_tree.specs.declared.child.Child.{Child}
use Rattle.mr_pages.specs.declared.head.MapHead.{MapHead}
use Rattle.mr_pages.specs.Page.{Link, Form, page_limit}
use Rattle.mr_pages.specs.File.{file_of}
use Rattle.mr_pages.specs.Stands.{Placed, whole_pages}
use Rattle.mr_pages.specs.Faults.{mapfault}
use Rattle.mr_pages.specs.private.Spelled.{placed_at}
use Rattle.mr_batch.specs.Directory.{DirectoryEntries, IsDirectoryOf}
use Rattle.mr_pages.specs.Walking.{child_link, page_node, head_of}
use Rattle.mr_store.specs.Parts.{placed_model, untold}
use Rattle.mr_store.specs.Kept.{CacheEntries, IsGood, node_of}
pub use Rattle.mr_store.specs.Kept.{room}
use Rattle.mr_store.specs.declared.cached_node.CachedNode.{CachedNode}
use Rattle.mr_store.specs.declared.cached_file.CachedFile.{CachedFile}
use Rattle.mr_store.specs.CachedFile.{state_of, name_of, page_form, bytes_of, entries_of}

abbrev pub root_link : MapHead → Option Link
root_link h = option_map child_link h.root

-- the nodes of the map on the pages of a file of these bytes
abbrev pub nodes_on_pages : Form → MapHead → List ℕ → Option Placed
nodes_on_pages form h bytes = placed_at (file_of form bytes).node (root_link h)

-- what such a file stands for, where its bytes are told, or else
abbrev pub read_map : Form → MapHead → Option (List ℕ) → MapModel
read_map form h None = untold form.version h.batch h.pages
read_map form h (Some bytes) = placed_model form.version h.batch h.pages
    (nodes_on_pages form h bytes)

-- where the file's bytes are told: they have no fault, page 0 says this, and each page that is kept
-- holds what is kept of it; where the cache has room for all nodes, all are kept
pub record IsOpen (form : Form) (hash : List ℕ → List ℕ) (h : MapHead) (es : CacheEntries)
    (bytes : List ℕ) : Type 0 where
  pub are : AreBytes bytes
  pub fault : mapfault hash (file_of form bytes) ≡ None
  pub head : (file_of form bytes).head ≡ Ok (head_of h)
  pub same : (e : ℕ × CachedNode) → Contains es e →
      (file_of form bytes).node e.0 ≡ Some (page_node (node_of e.1.node))
  pub all : h.pages ≤ room + 1 → (page : ℕ) → Contains (whole_pages (nodes_on_pages form h bytes))
      page →
      IsSome (lookup (nat_eq page) es)

-- the root's page is in a file of so many pages, and of its node nothing is told that its version
-- does not tell: of the number of its records, that of the map
pub record IsRootOf (v : Version) (count pages : ℕ) (c : Child) : Type 0 where
  pub positive : 1 ≤ c.id
  pub within : c.id < pages
  pub low : c.level ≤ level_limit
  pub told : MayTell v c.mask c.count
  pub counted : c.count ≡ version.told v count

-- what is known of an opened map, whether or not its file is told
pub record IsStored (form : Form) (hash : List ℕ → List ℕ) (told : Option Files) (name : List ℕ)
    (h : MapHead) (es : CacheEntries) (size : ℕ) : Type 0 where
  pub few : h.count ≤ count_limit
  pub paged : h.pages ≤ page_limit
  pub none : (h.count ≡ 0) ↔ IsNone h.root
  pub root : IfSome h.root (IsRootOf form.version h.count h.pages)
  pub cap : size ≡ room
  pub good : (e : ℕ × CachedNode) → Contains es e → IsGood (by form.version hash) h.pages e.1
  -- a file that is told is there
  pub there : MatchOption told ⊤ (λ files. IsSome (file files name))
  pub open_ : IfSome (told_bytes told name) (IsOpen form hash h es)

-- the same of a file with its cache, which has as many pages as page 0 says
pub record IsStore {S : Type 0} {G : Ghosts S} (hash : List ℕ → List ℕ) (f : CachedFile S G)
    (h : MapHead) : Type 0 where
  pub pages : f.pages ≡ h.pages
  pub is : IsStored (page_form f) hash (state_of f).files (name_of f) h (entries_of f) f.cache.cap

-- the map that stands on the pages of a file, whose page 0 says this
abbrev pub map_on : {S : Type 0} {G : Ghosts S} → CachedFile S G → MapHead → MapModel
map_on f h = read_map (page_form f) h (bytes_of f)

-- the snapshot with these nodes and this head is of the map, where its tree is told
abbrev pub IsSnapshotOf : MapModel → List Stored → Top → Type 0
IsSnapshotOf s nodes top = (t : Tree) → s.tree ≡ Some t →
    snapshot_model nodes top ≡ tree_model s.version s.batch t

-- what page 0 says of the map
abbrev pub top_in : Version → MapHead → Top
top_in v h = record { version = v; batch = h.batch; count = h.count; root = h.root }

-- the tree in memory is of a map that says this of itself: at its batch, with as many records as it
-- says, and with the level, rectangle and digest that it says of its root node
pub record IsSaid (hash : List ℕ → List ℕ) (top : Top) (s : MapModel) : Type 0 where
  pub version : s.version ≡ top.version
  pub batch : s.batch ≡ top.batch
  pub tree : Tree
  pub told : s.tree ≡ Some tree
  pub count : length (records tree) ≡ top.count
  pub root : IfSome top.root (λ c. entry (by s.version hash) tree ≡ child_entry c)

-- The directory is of a map that says this of itself: of a well-formed tree of its version, with as
-- many records as it says, and with the level, rectangle, mask and digest that it says of its root
-- node. Between these counts there were no more fetches than that tree has nodes.
pub record IsListedAs (hash : List ℕ → List ℕ) (top : Top) (fetches fetches' : ℕ)
    (d : DirectoryEntries) : Type 0 where
  pub tree : Tree
  pub well_formed : WellFormed tree
  pub layers : HasLayers top.version tree
  pub lists : IsDirectoryOf d (records tree)
  pub count : length (records tree) ≡ top.count
  pub root : IfSome top.root (λ c. entry (by top.version hash) tree ≡ child_entry c)
  pub few : fetches' ≤ fetches + length (subtrees tree)

-- the file of these bytes stands for the map
abbrev pub IsMapOf : Form → (List ℕ → List ℕ) → MapModel → List ℕ → Type 0
IsMapOf form hash s bytes =
    (t : Tree) × (s.tree ≡ Some t) × IsMap form hash bytes t s.batch
