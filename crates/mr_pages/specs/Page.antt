-- What one page of a map file says: page 0 says what map it is, each other page has a node or is
-- free.
use Rattle.std.specs.Prelude.{◌≡◌, ◌≢◌, ℕ, ◌^◌, ◌<◌, ◌≤◌, List, length, map, All, Option, Some, None, Result}
use Rattle.std.specs.List.{AllByRecursion}
use Rattle.std.specs.Result.{result_ok}
use Rattle.mr_geom.specs.Rectangle.{Rectangle, IsOrdered, FitsMap}
use Rattle.mr_outside.specs.Bytes.{AreBytes}
use Rattle.mr_record.specs.Record.{IsRecord, HasLayer}
use Rattle.mr_record.specs.declared.version.Version.{Version}
use Rattle.mr_record.specs.Version.{told}
use Rattle.mr_tree.specs.Limits.{count_limit, level_limit, leaf_limit, inner_limit}
use Rattle.mr_tree.specs.Tree.{level_step, first_level}
use Rattle.mr_tree.specs.View.{MayTell}
use Rattle.mr_tree.specs.Digest.{Scheme, entry_step}
use Rattle.mr_tree.specs.declared.entry.Entry.{Entry}
use Rattle.mr_tree.specs.declared.tree.Tree.TheOpen.{Tree-F, Empty, Leaf, Inner}
use Rattle.mr_tree.specs.declared.tree.Tree.TheFolds.{map-Tree}
use Rattle.mr_pages.specs.declared.rule.MapRule.{MapRule}

-- what is said of a node by its parent, or by page 0 of the root: its page, and its entry
pub record Link : Type 0 where
  pub page : ℕ
  pub entry : Entry

-- a leaf with its records, or an inner node with a link to each child
abbrev pub Node : Type 0
Node = Tree-F Link

-- the level of a node, by its children's
abbrev pub level_of : Node → ℕ
level_of node = level_step (map-Tree Link ℕ (λ (l : Link). l.entry.level) node)

-- the entry of a node: what is to be said of it
abbrev pub node_entry : Scheme → Node → Entry
node_entry s node = entry_step s (map-Tree Link Entry (λ (l : Link). l.entry) node)

-- page 0
pub record Head : Type 0 where
  pub batch : ℕ
  -- of records
  pub count : ℕ
  -- of the file
  pub pages : ℕ
  pub root : Option Link
  -- the first free page, 0 for none
  pub free : ℕ

-- ---- what fits a page

-- the most pages of a file
abbrev pub page_limit : ℕ
page_limit = 2 ^ 20

-- a rectangle with its sides in order
pub record HasRect (rect : Option Rectangle) : Type 0 where
  pub r : Rectangle
  pub is : rect ≡ Some r
  pub ordered : IsOrdered r
  pub coordinates : FitsMap r

pub record IsLink (v : Version) (l : Link) : Type 0 where
  pub page : l.page < 2 ^ 32
  pub level : l.entry.level ≤ level_limit
  pub rect : HasRect l.entry.rect
  pub told : MayTell v l.entry.mask l.entry.count
  pub digest : length l.entry.digest ≡ 32

-- the level of the first one
abbrev pub level_below : List Link → ℕ
level_below links = first_level (map (λ (l : Link). l.entry.level) links)

-- 1 to 16 records, or 1 to 64 links to nodes of one level
abbrev pub IsNode : Version → Node → Type 0
IsNode v Empty = ⊥
IsNode v (Leaf records) =
    (1 ≤ length records) × (length records ≤ leaf_limit)
    × All (λ r. IsRecord r × HasLayer v r) records
IsNode v (Inner links) =
    (1 ≤ length links) × (length links ≤ inner_limit) × AllByRecursion (IsLink v) links
    × AllByRecursion (λ (l : Link). l.entry.level ≡ level_below links) links
    × (level_below links < level_limit)

-- a link to a root, just where there are records; what is told of their number is the head's count
abbrev pub IsRoot : Version → ℕ → Option Link → Type 0
IsRoot v count None = count ≡ 0
IsRoot v count (Some l) =
    (0 < count) × (l.page ≢ 0) × (l.entry.count ≡ told v count) × IsLink v l

pub record IsHead (v : Version) (h : Head) : Type 0 where
  pub batch : h.batch < 2 ^ 64
  pub count : h.count ≤ count_limit
  pub pages : (1 ≤ h.pages) × (h.pages ≤ page_limit)
  pub root : IsRoot v h.count h.root
  pub free : h.free < 2 ^ 32

-- ---- the pages of one version of the format

pub record Form : Type 0 where
  pub version : Version
  -- in bytes
  pub size : ℕ
  -- how each kind of page is spelled
  pub head_page : Head → List ℕ
  pub node_page : Node → List ℕ
  pub free_page : ℕ → List ℕ
  -- what a page is read as: page 0 of a file of so many pages, or the first rule that it breaks; a
  -- node; the next free page
  pub head_in : ℕ → List ℕ → Result Head MapRule
  pub node_in : List ℕ → Option Node
  pub free_in : List ℕ → Option ℕ

-- what fits a page has one spelling, of a page's size, which is read as it; and bytes that are read
-- as something are its spelling
pub record AreInverse {A : Type 0} (Fits : A → Type 0) (size : ℕ) (spell : A → List ℕ)
    (read : List ℕ → Option A) : Type 0 where
  pub sized : (a : A) → Fits a → length (spell a) ≡ size
  pub read_again : (a : A) → Fits a → read (spell a) ≡ Some a
  pub spelled : (bytes : List ℕ) (a : A) → AreBytes bytes → read bytes ≡ Some a →
      Fits a × (spell a ≡ bytes)

abbrev pub FitsMapHead : Version → ℕ → Head → Type 0
FitsMapHead v pages h = IsHead v h × (h.pages ≡ pages)

-- reading and spelling pages of this form are inverse to each other
pub record IsForm (form : Form) : Type 0 where
  pub some : 0 < form.size
  pub heads : (pages : ℕ) → 1 ≤ pages → pages ≤ page_limit →
      AreInverse (FitsMapHead form.version pages) form.size form.head_page
      (λ bytes. result_ok (form.head_in pages bytes))
  pub nodes : AreInverse (IsNode form.version) form.size form.node_page form.node_in
  pub frees : AreInverse (λ free. free < 2 ^ 32) form.size form.free_page form.free_in
