-- What binds the two: a file has no fault just where it stands for a map, and then for that alone.
use Rattle.std.specs.Prelude.{◌≡◌, ℕ, List, None}
use Rattle.mr_record.specs.declared.version.Version.{Version}
use Rattle.mr_tree.specs.Digest.{by, root}
use Rattle.mr_tree.specs.WellFormed.{WellFormed, HasLayers}
use Rattle.mr_tree.specs.declared.tree.Tree.{Tree}
use Rattle.mr_pages.specs.Page.{Form}
use Rattle.mr_pages.specs.PageBytes.{form_by}
use Rattle.mr_pages.specs.File.{file_of}
use Rattle.mr_pages.specs.Stands.{StandsForTree}
use Rattle.mr_pages.specs.Faults.{mapfault}
use Rattle.mr_pages.specs.declared.opening.Opened.{Opened}

-- the file stands for a well-formed tree at a batch
pub record IsMap (form : Form) (hash : List ℕ → List ℕ) (bytes : List ℕ) (t : Tree) (batch : ℕ)
    : Type 0 where
  pub well : WellFormed t
  -- the layers are those of its version
  pub layers : HasLayers form.version t
  pub stands : StandsForTree form hash bytes t batch

-- the map of this version of a tree at a batch
abbrev pub map_in : Version → Tree → (batch : ℕ) → Opened
map_in v tree batch = record { tree = tree; version = v; batch = batch }

-- the file stands for this map, as one of its version
abbrev pub IsMapFile : (List ℕ → List ℕ) → (bytes : List ℕ) → Opened → Type 0
IsMapFile hash bytes map = IsMap (form_by map.version) hash bytes map.tree map.batch

-- the root digest of a map
abbrev pub map_root : (List ℕ → List ℕ) → Opened → List ℕ
map_root hash map = root (by map.version hash) map.tree map.batch

-- the file stands for no other map
abbrev pub IsOnlyMap : Form → (List ℕ → List ℕ) → (bytes : List ℕ) → Tree → (batch : ℕ) → Type 0
IsOnlyMap form hash bytes t b =
    (u : Tree) (c : ℕ) → IsMap form hash bytes u c → (t ≡ u) × (b ≡ c)

pub record AgreesWithFault (form : Form) (hash : List ℕ → List ℕ) (bytes : List ℕ) : Type 0 where
  -- a file without a fault stands for a map
  pub map : mapfault hash (file_of form bytes) ≡ None →
      (t : Tree) × (b : ℕ) × IsMap form hash bytes t b
  -- one that stands for a map has no fault
  pub none : (t : Tree) (b : ℕ) → IsMap form hash bytes t b →
      mapfault hash (file_of form bytes) ≡ None
  -- and it stands for no other map
  pub only : (t : Tree) (b : ℕ) → IsMap form hash bytes t b → IsOnlyMap form hash bytes t b
