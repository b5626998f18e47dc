-- The preimages and digests of nodes and maps, for any hash function from byte lists to 32 bytes
-- and any version.
use Rattle.std.specs.Prelude.{ℕ, ◌==◌, if◌then◌else◌, List, [], ◌∷◌, ◌++◌, Option, Some, None, map, length, replicate}
use Rattle.std.specs.List.{flat_map}
use Rattle.std.specs.Int.{w64, to_be_bytes}
use Rattle.mr_geom.specs.Rectangle.{Rectangle}
use Rattle.mr_record.specs.declared.version.Version.{Version}
use Rattle.mr_record.specs.Version.{version_byte, from_two}
use Rattle.mr_record.specs.Record.{record_bytes, rectangle_bytes}
use Rattle.mr_tree.specs.Tree.{records, level_step, rect_step, mask_step, count_step}
use Rattle.mr_tree.specs.declared.entry.Entry.{Entry}
use Rattle.mr_tree.specs.declared.tree.Tree.{Tree}
use Rattle.mr_tree.specs.declared.tree.Tree.TheOpen.{Tree-F, Empty, Leaf, Inner}
use Rattle.mr_tree.specs.declared.tree.Tree.TheViews.{out-Tree}
use Rattle.mr_tree.specs.declared.tree.Tree.TheFolds.{fold-Tree, map-Tree}

-- a hash function, and the version of what it is applied to
pub record Scheme : Type 0 where
  pub of : List ℕ → List ℕ
  pub version : Version

-- the hash function in this version
abbrev pub by : Version → (List ℕ → List ℕ) → Scheme
by v hash = record { of = hash; version = v }

-- the bytes of a rectangle that is there
abbrev pub rect_bytes : Option Rectangle → List ℕ
rect_bytes None = []
rect_bytes (Some r) = rectangle_bytes r

-- a word that only the second version spells
abbrev pub word_bytes : Version → ℕ → List ℕ
word_bytes v n = from_two v (to_be_bytes w64 n)

-- the bytes of an entry, which is what an inner node holds of a child, in its preimage: the child's
-- rectangle, mask, count and digest
abbrev pub entry_bytes : Version → Entry → List ℕ
entry_bytes v e =
    rect_bytes e.rect ++ (word_bytes v e.mask ++ (word_bytes v e.count ++ e.digest))

-- what a root preimage says of the root node behind its level; the count stands in front
abbrev pub root_entry_bytes : Version → Entry → List ℕ
root_entry_bytes v e = rect_bytes e.rect ++ (word_bytes v e.mask ++ e.digest)

-- what is said of no node
abbrev pub no_entry : Entry
no_entry = record { level = 0; rect = None; mask = 0; count = 0; digest = replicate 32 0 }

-- the level of a node whose children have these entries
abbrev pub level_over : List Entry → ℕ
level_over entries = level_step (Inner (map (λ (e : Entry). e.level) entries))

-- the first byte of a preimage: `L` of a leaf, `N` of an inner node, `R` of a map with records, `E`
-- of a map without
abbrev pub leaf_tag : ℕ
leaf_tag = 0x4c

abbrev pub inner_tag : ℕ
inner_tag = 0x4e

abbrev pub root_tag : ℕ
root_tag = 0x52

abbrev pub empty_tag : ℕ
empty_tag = 0x45

-- the bytes that a node's digest is of
abbrev pub node_preimage : Version → Tree-F Entry → List ℕ
node_preimage v Empty = []
node_preimage v (Leaf records) =
    leaf_tag ∷ length records ∷ flat_map (record_bytes v) records
node_preimage v (Inner entries) =
    inner_tag ∷ level_over entries ∷ length entries ∷ flat_map (entry_bytes v) entries

-- a node's entry, from those of its children
abbrev pub entry_step : Scheme → Tree-F Entry → Entry
entry_step s x = record {
  level = level_step (map-Tree Entry ℕ (λ (e : Entry). e.level) x);
  rect = rect_step (map-Tree Entry (Option Rectangle) (λ (e : Entry). e.rect) x);
  mask = mask_step s.version (map-Tree Entry ℕ (λ (e : Entry). e.mask) x);
  count = count_step s.version (map-Tree Entry ℕ (λ (e : Entry). e.count) x);
  digest = s.of (node_preimage s.version x);
}

-- what a node above the tree holds of it
abbrev pub entry : Scheme → Tree → Entry
entry s = fold-Tree Entry (entry_step s)

-- the bytes that the tree's digest is of
abbrev pub preimage : Scheme → Tree → List ℕ
preimage s t = node_preimage s.version (map-Tree Tree Entry (entry s) (out-Tree t))

abbrev pub digest : Scheme → Tree → List ℕ
digest s t = (entry s t).digest

-- the bytes that the root digest of a map is of, by its version, its batch, the count of its
-- records and the entry of its root node
abbrev pub root_preimage : Version → (batch count : ℕ) → Entry → List ℕ
root_preimage v batch count e =
    if count == 0 then empty_tag ∷ version_byte v ∷ to_be_bytes w64 batch
    else root_tag ∷ version_byte v
    ∷ (to_be_bytes w64 batch ++ to_be_bytes w64 count ++ e.level ∷ root_entry_bytes v e)

-- those of the map with this tree at this batch
abbrev pub root_preimage_of : Scheme → Tree → (batch : ℕ) → List ℕ
root_preimage_of s t batch = root_preimage s.version batch (length (records t)) (entry s t)

-- the root digest of the map
abbrev pub root : Scheme → Tree → (batch : ℕ) → List ℕ
root s t batch = s.of (root_preimage_of s t batch)
