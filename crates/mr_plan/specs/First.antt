-- The first version, and maps of it; and the pages of a file.
use Rattle.std.specs.Prelude.{ℕ, ◌/◌, List, length}
use Rattle.mr_record.specs.declared.version.Version.{Version}
use Rattle.mr_record.specs.declared.version.Version.TheVariants.{One}
use Rattle.mr_tree.specs.Digest.{Scheme, by}
use Rattle.mr_tree.specs.declared.tree.Tree.{Tree}
use Rattle.mr_pages.specs.Law.{map_in}
use Rattle.mr_pages.specs.PageBytes.{form_by}
use Rattle.mr_pages.specs.declared.opening.Opened.{Opened}

abbrev pub first : (List ℕ → List ℕ) → Scheme
first hash = by One hash

-- the map of this version of a tree at a batch
abbrev pub first_map : Tree → (batch : ℕ) → Opened
first_map tree batch = map_in One tree batch

-- how many pages of a version a file of these bytes has
abbrev pub pages_by : Version → List ℕ → ℕ
pages_by v bytes = length bytes / (form_by v).size
