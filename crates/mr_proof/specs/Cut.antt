-- A cut of a tree: some nodes of it opened, the other parts pruned.
use Rattle.std.specs.Prelude.{◌≡◌, ℕ, ◌+◌, ◌-◌, List, [], ◌∷◌, ◌++◌, Option, Some, None, option_map, sum}
use Rattle.mr_record.specs.declared.version.Version.{Version}
use Rattle.mr_geom.specs.Rectangle.{Rectangle}
use Rattle.mr_record.specs.declared.record.Record.{Record}
use Rattle.mr_tree.specs.Tree.{union_of, rect_step, mask_of, mask_step, count_step}
use Rattle.mr_tree.specs.Tree as tree
use Rattle.mr_tree.specs.Digest.{Scheme, entry_step, node_preimage}
use Rattle.mr_tree.specs.Digest as digests
use Rattle.mr_tree.specs.declared.entry.Entry.{Entry}
use Rattle.mr_tree.specs.declared.tree.Tree.{Tree}
use Rattle.mr_tree.specs.declared.tree.Tree.TheVariants as trees
use Rattle.mr_tree.specs.declared.tree.Tree.TheOpen as node
use Rattle.mr_proof.specs.declared.pruned_entry.PrunedEntry.{PrunedEntry}

mutual
  -- a pruned part, with what is shown of it; a leaf; or an inner node with a cut of each child
  pub data Cut : Type 0 where
    Pruned : PrunedEntry → Cut
    Leaf : List Record → Cut
    Inner : Cuts → Cut

  -- cuts side by side, left to right
  pub data Cuts : Type 0 where
    no_more : Cuts
    first : Cut → Cuts → Cuts

-- ---- what is shown of a pruned part: what its parent's entry shows of it

abbrev pub shown_with : Entry → Rectangle → PrunedEntry
shown_with e r = record { rect = r; mask = e.mask; count = e.count; digest = e.digest }

-- the entry of the empty tree, of which there is no cut, has no rectangle and shows nothing
abbrev pub pruned_entry : Entry → Option PrunedEntry
pruned_entry e = option_map (shown_with e) e.rect

-- the entry of a part of this level, by what is shown of it
abbrev pub entry_shown : (level : ℕ) → PrunedEntry → Entry
entry_shown level part = record {
  level = level;
  rect = Some part.rect;
  mask = part.mask;
  count = part.count;
  digest = part.digest;
}

abbrev pub pruned_if : Option PrunedEntry → Cut
pruned_if None = Leaf []
pruned_if (Some part) = Pruned part

-- the part with this entry, pruned
abbrev pub pruned_cut : Entry → Cut
pruned_cut e = pruned_if (pruned_entry e)

-- ---- cuts side by side

abbrev pub cuts_of : List Cut → Cuts
cuts_of [] = no_more
cuts_of (P ∷ Ps) = first P (cuts_of Ps)

abbrev pub number_of_cuts : Cuts → ℕ
number_of_cuts no_more = 0
number_of_cuts (first P Ps) = number_of_cuts Ps + 1

-- ---- what is known of the tree by a cut of it

abbrev mutual
  -- the least rectangle round the tree
  pub rect : Cut → Option Rectangle
  rect (Pruned part) = Some part.rect
  rect (Leaf records) = rect_step (node.Leaf records)
  rect (Inner cuts) = union_of (rects cuts)

  pub rects : Cuts → List (Option Rectangle)
  rects no_more = []
  rects (first P Ps) = rect P ∷ rects Ps

abbrev mutual
  -- the mask of the layers of the tree, as a version tells it
  pub mask : Version → Cut → ℕ
  mask v (Pruned part) = part.mask
  mask v (Leaf records) = mask_step v (node.Leaf records)
  mask v (Inner cuts) = mask_of (masks v cuts)

  pub masks : Version → Cuts → List ℕ
  masks v no_more = []
  masks v (first P Ps) = mask v P ∷ masks v Ps

abbrev mutual
  -- the number of records of the tree, as a version tells it
  pub count : Version → Cut → ℕ
  count v (Pruned part) = part.count
  count v (Leaf records) = count_step v (node.Leaf records)
  count v (Inner cuts) = sum (counts v cuts)

  pub counts : Version → Cuts → List ℕ
  counts v no_more = []
  counts v (first P Ps) = count v P ∷ counts v Ps

abbrev mutual
  -- what the parent of the tree, a tree of this level, knows of it
  pub entry : Scheme → ℕ → Cut → Entry
  entry s level (Pruned part) = entry_shown level part
  entry s level (Leaf records) = entry_step s (node.Leaf records)
  entry s level (Inner cuts) = entry_step s (node.Inner (entries s (level - 1) cuts))

  pub entries : Scheme → ℕ → Cuts → List Entry
  entries s level no_more = []
  entries s level (first P Ps) = entry s level P ∷ entries s level Ps

-- the digest of the tree, a tree of this level
abbrev pub digest : Scheme → ℕ → Cut → List ℕ
digest s level P = (entry s level P).digest

-- the bytes that the digest of an opened node is of; of a pruned part they are not known
abbrev pub preimage : Scheme → ℕ → Cut → Option (List ℕ)
preimage s level (Pruned part) = None
preimage s level (Leaf records) = Some (node_preimage s.version (node.Leaf records))
preimage s level (Inner cuts) =
    Some (node_preimage s.version (node.Inner (entries s (level - 1) cuts)))

abbrev mutual
  -- the opened records, left to right
  pub records : Cut → List Record
  records (Pruned part) = []
  records (Leaf rs) = rs
  records (Inner cuts) = all_records cuts

  pub all_records : Cuts → List Record
  all_records no_more = []
  all_records (first P Ps) = records P ++ all_records Ps

abbrev mutual
  -- the number of opened nodes
  pub opened_nodes : Cut → ℕ
  opened_nodes (Pruned part) = 0
  opened_nodes (Leaf rs) = 1
  opened_nodes (Inner cuts) = all_opened cuts + 1

  pub all_opened : Cuts → ℕ
  all_opened no_more = 0
  all_opened (first P Ps) = opened_nodes P + all_opened Ps

-- ---- a cut and a tree

abbrev mutual
  -- this is a cut of that tree
  pub CutOf : Scheme → Cut → Tree → Type 0
  CutOf s (Pruned part) t = (Some part.rect ≡ tree.rect t)
      × (part.mask ≡ tree.mask s.version t)
      × (part.count ≡ tree.count s.version t)
      × (part.digest ≡ digests.digest s t)
  CutOf s (Leaf records) t = t ≡ trees.Leaf records
  CutOf s (Inner cuts) t = (children : List Tree) × (t ≡ trees.Inner children)
      × CutsOf s cuts children

  pub CutsOf : Scheme → Cuts → List Tree → Type 0
  CutsOf s no_more ts = ts ≡ []
  CutsOf s (first P Ps) ts =
      (t : Tree) × (others : List Tree) × (ts ≡ t ∷ others) × CutOf s P t × CutsOf s Ps others
