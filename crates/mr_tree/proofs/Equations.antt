-- What each word on trees is at each kind of node.
use Rattle.std.proofs.Common.{◌≡◌, ℕ, ◌+◌, List, [], ◌∷◌, map, length, refl, sym, ap, ◌∙◌}
use Rattle.std.specs.Prelude.{Option, Some, None}
use Rattle.std.specs.List.{flat_map}
use Rattle.mr_geom.specs.Rectangle.{Rectangle, union_of}
use Rattle.mr_record.specs.declared.record.Record.{Record}
use Rattle.mr_record.specs.Record.{record_bytes}
use Rattle.mr_tree.specs.Tree.{level, level_step, rect, rect_step, mask, mask_step, count, count_step, records, records_step, first_level}
use Rattle.mr_tree.specs.Digest.{Scheme, entry, entry_step, level_over, digest, preimage}
use Rattle.mr_tree.specs.declared.entry.Entry.{Entry}
use Rattle.mr_tree.specs.declared.tree.Tree.{Tree}
use Rattle.mr_tree.specs.declared.tree.Tree.TheVariants as tree
use Rattle.mr_tree.specs.declared.tree.Tree.TheOpen.{Empty, Leaf, Inner}
use Rattle.mr_tree.specs.declared.tree.Tree.TheFolds.{fold_out-Tree}
use Rattle.mr_tree.proofs.Folds.{fold-Empty, fold-Leaf, fold-Inner, fold_fused}

pub level-Inner : (ts : List Tree) → level (tree.Inner ts) ≡ first_level (map level ts) + 1
level-Inner = fold-Inner ℕ level_step

pub records-Inner : (ts : List Tree) → records (tree.Inner ts) ≡ flat_map (λ list. list) (map records ts)
records-Inner = fold-Inner (List Record) records_step

pub rect-Inner : (ts : List Tree) → rect (tree.Inner ts) ≡ union_of (map rect ts)
rect-Inner = fold-Inner (Option Rectangle) rect_step

pub level-Leaf : (rs : List Record) → level (tree.Leaf rs) ≡ 0
level-Leaf = fold-Leaf ℕ level_step

pub records-Leaf : (rs : List Record) → records (tree.Leaf rs) ≡ rs
records-Leaf = fold-Leaf (List Record) records_step

pub rect-Leaf : (rs : List Record) → rect (tree.Leaf rs) ≡ union_of (map (λ (r : Record). Some r.rect) rs)
rect-Leaf = fold-Leaf (Option Rectangle) rect_step

pub digest-Leaf : (s : Scheme) (rs : List Record) →
    digest s (tree.Leaf rs) ≡ s.of (0x4c ∷ length rs ∷ flat_map (record_bytes s.version) rs)
digest-Leaf s rs = ap (λ (e : Entry). e.digest) (fold-Leaf Entry (entry_step s) rs)

pub level-Empty : level tree.Empty ≡ 0
level-Empty = fold-Empty ℕ level_step

pub records-Empty : records tree.Empty ≡ []
records-Empty = fold-Empty (List Record) records_step

pub rect-Empty : rect tree.Empty ≡ None
rect-Empty = fold-Empty (Option Rectangle) rect_step

-- An entry has its tree's level, rectangle, mask and count: one law for all.

pub entry_level : (s : Scheme) (t : Tree) → (entry s t).level ≡ level t
entry_level s = fold_fused Entry ℕ (entry_step s) level_step (λ (e : Entry). e.level) (λ x. refl)

pub entry_rect : (s : Scheme) (t : Tree) → (entry s t).rect ≡ rect t
entry_rect s = fold_fused Entry (Option Rectangle) (entry_step s) rect_step (λ (e : Entry). e.rect) (λ x. refl)

pub entry_mask : (s : Scheme) (t : Tree) → (entry s t).mask ≡ mask s.version t
entry_mask s = fold_fused Entry ℕ (entry_step s) (mask_step s.version) (λ (e : Entry). e.mask) (λ x. refl)

pub entry_count : (s : Scheme) (t : Tree) → (entry s t).count ≡ count s.version t
entry_count s = fold_fused Entry ℕ (entry_step s) (count_step s.version) (λ (e : Entry). e.count) (λ x. refl)

-- an entry by its parts
pub entry_parts : (s : Scheme) (t : Tree) → entry s t ≡ record {
  level = level t;
  rect = rect t;
  mask = mask s.version t;
  count = count s.version t;
  digest = digest s t;
}
entry_parts s t = λ i. record {
  level = entry_level s t i;
  rect = entry_rect s t i;
  mask = entry_mask s t i;
  count = entry_count s t i;
  digest = digest s t;
}

levels_all : (s : Scheme) (ts : List Tree) →
    map (λ (e : Entry). e.level) (map (entry s) ts) ≡ map level ts
levels_all s [] = refl
levels_all s (t ∷ ts) = λ i. entry_level s t i ∷ levels_all s ts i

-- the level over the entries of some children
pub level_over-Inner : (s : Scheme) (ts : List Tree) → level_over (map (entry s) ts) ≡ level (tree.Inner ts)
level_over-Inner s ts = ap (λ ns. first_level ns + 1) (levels_all s ts) ∙ sym (level-Inner ts)

pub entry-Inner : (s : Scheme) (ts : List Tree) → entry s (tree.Inner ts) ≡ entry_step s (Inner (map (entry s) ts))
entry-Inner s ts = fold-Inner Entry (entry_step s) ts

pub entry-Leaf : (s : Scheme) (rs : List Record) → entry s (tree.Leaf rs) ≡ entry_step s (Leaf rs)
entry-Leaf s rs = fold-Leaf Entry (entry_step s) rs

pub entry-Empty : (s : Scheme) → entry s tree.Empty ≡ entry_step s Empty
entry-Empty s = fold-Empty Entry (entry_step s)

-- A digest is the hash of its preimage.

pub digest_of_preimage : (s : Scheme) (t : Tree) → digest s t ≡ s.of (preimage s t)
digest_of_preimage s t = ap (λ (e : Entry). e.digest) (fold_out-Tree Entry (entry_step s) t)
