-- One node with what it holds of its children, as a call gives it out.
use Rattle.std.specs.Prelude.{◌≡◌, ℕ, ◌+◌, ◌^◌, ◌<◌, ◌≤◌, ◌==◌, if◌then◌else◌, List, [], take, length, All, Option, Some}
use Rattle.mr_geom.specs.Rectangle.{Rectangle, IsOrdered, FitsMap}
use Rattle.mr_outside.specs.Bytes.{AreBytes}
use Rattle.mr_record.specs.Record.{IsRecord, HasLayer}
use Rattle.mr_record.specs.declared.version.Version.{Version}
use Rattle.mr_record.specs.declared.version.Version.TheVariants.{Two}
use Rattle.mr_record.specs.declared.record.Record.{Record}
use Rattle.mr_record.specs.Version.{told}
use Rattle.mr_tree.specs.Limits.{count_limit, level_limit, leaf_limit, inner_limit}
use Rattle.mr_tree.specs.Tree.{level_step, rect_step, mask_step, count_step}
use Rattle.mr_tree.specs.Digest.{Scheme, entry_step, node_preimage}
use Rattle.mr_tree.specs.declared.entry.Entry.{Entry}
use Rattle.mr_tree.specs.declared.child.Child.{Child}
use Rattle.mr_tree.specs.declared.tree.Tree.TheOpen.{Tree-F, Empty, Leaf, Inner}
use Rattle.mr_tree.specs.declared.tree.Tree.TheFolds.{map-Tree}

-- a leaf with its records, or an inner node with what it holds of each child
abbrev pub Node : Type 0
Node = Tree-F Child

abbrev pub records_in : Node → List Record
records_in (Leaf records) = records
records_in _ = []

abbrev pub children_in : Node → List Child
children_in (Inner children) = children
children_in _ = []

-- how many records or children
abbrev pub size : Node → ℕ
size Empty = 0
size (Leaf records) = length records
size (Inner children) = length children

abbrev pub level_of : Node → ℕ
level_of node = level_step (map-Tree Child ℕ (λ (c : Child). c.level) node)

-- what is said of a child
abbrev pub child_entry : Child → Entry
child_entry c = record {
  level = c.level;
  rect = Some c.rect;
  mask = c.mask;
  count = c.count;
  digest = c.digest;
}

-- the node over the entries of its children
abbrev pub over_entries : Node → Tree-F Entry
over_entries node = map-Tree Child Entry child_entry node

-- the bytes that the node's digest is of
abbrev pub preimage_of : Version → Node → List ℕ
preimage_of v node = node_preimage v (over_entries node)

-- what is to be said of the node
abbrev pub entry_over : Scheme → Node → Entry
entry_over s node = entry_step s (over_entries node)

-- the least rectangle round it, where it has a record or a child
abbrev pub rect_of : Node → Option Rectangle
rect_of node = rect_step (map-Tree Child (Option Rectangle) (λ (c : Child). Some c.rect) node)

-- the mask of the layers below it, and the number of records, as a version tells them
abbrev pub mask_over : Version → Node → ℕ
mask_over v node = mask_step v (map-Tree Child ℕ (λ (c : Child). c.mask) node)

abbrev pub count_over : Version → Node → ℕ
count_over v node = count_step v (map-Tree Child ℕ (λ (c : Child). c.count) node)

-- ---- what a view holds

-- what a version may tell of a node with records: nothing, which is 0; or some layers, and from 1
-- to as many records as a map has
pub record MayTell (v : Version) (mask count : ℕ) : Type 0 where
  pub some : told v 1 ≤ mask
  pub fits : mask < 2 ^ told v 64
  pub counted : told v 1 ≤ count
  pub few : count ≤ told v count_limit

-- a node of a map of this version
pub record AreTold (v : Version) (n : Node) : Type 0 where
  pub layers : All (HasLayer v) (records_in n)
  pub children : All (λ (c : Child). MayTell v c.mask c.count) (children_in n)

-- a count of records that a map may have
abbrev pub HasCount : Child → Type 0
HasCount c = c.count ≤ count_limit

pub record IsChild (c : Child) : Type 0 where
  pub id : c.id < 2 ^ 32
  pub ordered : IsOrdered c.rect
  pub coordinates : FitsMap c.rect
  pub mask : c.mask < 2 ^ 64
  pub count : c.count < 2 ^ 64
  pub digest : length c.digest ≡ 32
  pub bytes : AreBytes c.digest

-- up to 16 records, or 1 to 64 children of one level
pub record IsInner (children : List Child) : Type 0 where
  pub some : 1 ≤ length children
  pub few : length children ≤ inner_limit
  pub low : level_of (Inner children) ≤ level_limit
  pub each : All IsChild children
  pub alike : All (λ (c : Child). c.level + 1 ≡ level_of (Inner children)) children

pub record IsLeaf (records : List Record) : Type 0 where
  pub few : length records ≤ leaf_limit
  pub each : All IsRecord records

abbrev pub IsView : Node → Type 0
IsView Empty = ⊥
IsView (Leaf records) = IsLeaf records
IsView (Inner children) = IsInner children

-- ---- how a view keeps it: in the first places

abbrev pub shown : (level len : ℕ) → List Record → List Child → Node
shown level len records children =
    if level == 0 then Leaf (take len records) else Inner (take len children)

pub record IsKept (level len : ℕ) (records : List Record) (children : List Child) : Type 0 where
  pub room : (length records ≡ leaf_limit) × (length children ≡ inner_limit)
  pub low : level ≤ level_limit
  pub few : len ≤ inner_limit
  pub brief : level ≡ 0 → len ≤ leaf_limit
  pub some : 0 < level → 1 ≤ len
  pub layers : level ≡ 0 → All (HasLayer Two) (take len records)
  pub below : 0 < level → All (λ (c : Child). c.level + 1 ≡ level) (take len children)
