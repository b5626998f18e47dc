-- What the directory of a map is made of.
use Rattle.std.specs.Prelude.{◌≡◌, ◌≢◌, ℕ, ◌+◌, ◌≤◌, true, List, ◌++◌, map, length, AllPairs, Some, IfSome, IsSome}
use Rattle.mr_geom.specs.Rectangle.{Rectangle}
use Rattle.mr_outside.specs.declared.shelf.Shelf.{Ghosts}
use Rattle.mr_record.specs.declared.record.Record.{Record}
use Rattle.mr_tree.specs.Tree.{records}
use Rattle.mr_tree.specs.Digest.{Scheme, entry}
use Rattle.mr_tree.specs.View.{child_entry}
use Rattle.mr_tree.specs.Nodes.{MapModel, subtrees}
use Rattle.mr_tree.specs.declared.child.Child.{Child}
use Rattle.mr_tree.specs.declared.tree.Tree.{Tree}
use Rattle.mr_pages.specs.Page.{Form}
use Rattle.mr_pages.specs.Stands.{whole_tree}
use Rattle.mr_pages.specs.declared.head.MapHead.{MapHead}
use Rattle.mr_pages.specs.declared.node.Node as owned_type
use Rattle.mr_pages.specs.declared.node.Node.TheVariants as owned_node
use Rattle.mr_store.specs.CachedFile.{page_form}
use Rattle.mr_store.specs.Opening.{IsOfSome}
use Rattle.mr_store.specs.Stored.{map_on, nodes_on_pages}
use Rattle.mr_store.specs.declared.cached_file.CachedFile.{CachedFile}
use Rattle.mr_store.specs.declared.record_list.RecordList.{RecordList}
use Rattle.mr_store.specs.private.Walk.{IsFine, IsFull}
use Rattle.mr_batch.specs.Directory.{DirectoryEntries, IsDirectoryOf}

-- what is listed of a record: its entry in a directory
abbrev pub directory_entry : Record → ℕ × Rectangle
directory_entry r = (r.number, r.rect)

-- the records have different numbers
abbrev pub AreApart : List Record → Type 0
AreApart rs = AllPairs (λ (a b : Record). a.number ≢ b.number) rs

-- what was listed before, and these records behind it, where they are wanted
pub record ListsMore (before after : RecordList) (rs : List Record) : Type 0 where
  pub wanted : after.wanted ≡ before.wanted
  pub entries : before.wanted ≡ true →
      after.entries.items ≡ before.entries.items ++ map directory_entry rs

-- the same of the records of a node
abbrev pub ListsNode : RecordList → RecordList → owned_type.Node → Type 0
ListsNode before after (owned_node.Leaf records) = ListsMore before after records.items
ListsNode before after (owned_node.Inner children) = after ≡ before

-- these are the entries of all records of a map that some bytes stand for, whose page 0 says this
pub record ListsSome (form : Form) (hash : List ℕ → List ℕ) (h : MapHead) (all : DirectoryEntries)
    : Type 0 where
  pub some : IsOfSome form hash h
  pub lists : all ≡ map directory_entry (records (whole_tree (nodes_on_pages form h some.bytes)))

-- of the map in a file, where its tree is told, and of some bytes in any case
pub record ListsRecords {S : Type 0} {G : Ghosts S} (hash : List ℕ → List ℕ) (f : CachedFile S G)
    (h : MapHead) (all : DirectoryEntries) : Type 0 where
  pub told : IfSome (map_on f h).tree (λ t. all ≡ map directory_entry (records t))
  pub some : ListsSome (page_form f) hash h all

-- where the tree is told, these are the entries of all records below the child
abbrev pub ListsAt : MapModel → Child → DirectoryEntries → Type 0
ListsAt s c all = IsSome s.tree → (t : Tree) × (s.node c.id ≡ Some t)
    × (all ≡ map directory_entry (records t)) × AreApart (records t)

-- it is the directory of what was listed
abbrev pub GathersDirectory : (all d : DirectoryEntries) → Type 0
GathersDirectory all d = (rs : List Record) → all ≡ map directory_entry rs → AreApart rs →
    IsDirectoryOf d rs

-- where the tree is told, it is the directory of the records below the child
abbrev pub HasAt : MapModel → Child → DirectoryEntries → Type 0
HasAt s c d = IsSome s.tree →
    (t : Tree) × (s.node c.id ≡ Some t) × IsDirectoryOf d (records t)

-- Told or not, this tree was walked over below the root, each of its nodes by one fetch. It is the
-- one that is said of, with so many records, and P is so of these.
pub record ListsTree (x : Scheme) (root : Child) (count fetches fetches' : ℕ)
    (P : List Record → Type 0) : Type 0 where
  pub tree : Tree
  pub known : child_entry root ≡ entry x tree
  pub fine : IsFine x.version true tree
  pub apart : AreApart (records tree)
  pub counted : length (records tree) ≡ count
  pub lists : P (records tree)
  pub once : fetches' ≤ fetches + length (subtrees tree)

-- ---- why it stops

-- the tree below the root is full, and its records have different numbers
pub record CanList (s : MapModel) (root : Child) : Type 0 where
  pub full : IsFull s true root
  pub apart : (t : Tree) → s.node root.id ≡ Some t → AreApart (records t)

-- and there are so many of them
pub record CanListAll (s : MapModel) (root : Child) (count : ℕ) : Type 0 where
  pub can : CanList s root
  pub counted : (t : Tree) → s.node root.id ≡ Some t → count ≡ length (records t)
