-- Digests and the bytes that they are of; what a parent knows of a tree by a cut of it.
use Rattle.std.proofs.Common.{◌≡◌, ℕ, ◌-◌, List, ◌∷◌, Option, Some, refl, ap}
use Rattle.std.specs.Prelude.{map, sum}
use Rattle.mr_tree.specs.Tree.{union_of, mask_of}
use Rattle.mr_tree.specs.Digest.{Scheme, by, node_preimage, root_preimage}
use Rattle.mr_tree.specs.declared.entry.Entry.{Entry}
use Rattle.mr_tree.specs.declared.tree.Tree.TheOpen as node
use Rattle.mr_proof.specs.Cut.{Cut, Cuts, Pruned, Leaf, Inner, no_more, first, rect, rects, mask, masks, count, counts, entry, entries, digest, preimage}
use Rattle.mr_proof.specs.declared.head.Head.{Head}
use Rattle.mr_proof.specs.Accepted.{proof_preimage}

abbrev some : List ℕ → Option (List ℕ)
some x = Some x

same_bytes : (x y : List ℕ) → some x ≡ some y → x ≡ y
same_bytes x y e = cc

-- the digest of an opened node is the s of its preimage
pub digest_of_preimage : (s : Scheme) (v : ℕ) (P : Cut) (x : List ℕ) → preimage s v P ≡ Some x
    → digest s v P ≡ s.of x
digest_of_preimage s v (Pruned part) x e = absurd cc
digest_of_preimage s v (Leaf rs) x e = ap s.of (same_bytes (node_preimage s.version (node.Leaf rs)) x e)
digest_of_preimage s v (Inner Ps) x e =
    ap s.of (same_bytes (node_preimage s.version (node.Inner (entries s (v - 1) Ps))) x e)

mutual
  -- what the parent knows has the rectangle of the cut
  pub entry-rect : (s : Scheme) (v : ℕ) (P : Cut) → (entry s v P).rect ≡ rect P
  entry-rect s v (Pruned part) = refl
  entry-rect s v (Leaf rs) = refl
  entry-rect s v (Inner Ps) = ap union_of (entries-rects s (v - 1) Ps)

  pub entries-rects : (s : Scheme) (v : ℕ) (Ps : Cuts)
      → map (λ (e : Entry). e.rect) (entries s v Ps) ≡ rects Ps
  entries-rects s v no_more = refl
  entries-rects s v (first P Ps) = λ i. entry-rect s v P i ∷ entries-rects s v Ps i

mutual
  -- its mask
  pub entry-mask : (s : Scheme) (v : ℕ) (P : Cut) → (entry s v P).mask ≡ mask s.version P
  entry-mask s v (Pruned part) = refl
  entry-mask s v (Leaf rs) = refl
  entry-mask s v (Inner Ps) = ap mask_of (entries-masks s (v - 1) Ps)

  entries-masks : (s : Scheme) (v : ℕ) (Ps : Cuts)
      → map (λ (e : Entry). e.mask) (entries s v Ps) ≡ masks s.version Ps
  entries-masks s v no_more = refl
  entries-masks s v (first P Ps) = λ i. entry-mask s v P i ∷ entries-masks s v Ps i

mutual
  -- and its count
  pub entry-count : (s : Scheme) (v : ℕ) (P : Cut) → (entry s v P).count ≡ count s.version P
  entry-count s v (Pruned part) = refl
  entry-count s v (Leaf rs) = refl
  entry-count s v (Inner Ps) = ap sum (entries-counts s (v - 1) Ps)

  entries-counts : (s : Scheme) (v : ℕ) (Ps : Cuts)
      → map (λ (e : Entry). e.count) (entries s v Ps) ≡ counts s.version Ps
  entries-counts s v no_more = refl
  entries-counts s v (first P Ps) = λ i. entry-count s v P i ∷ entries-counts s v Ps i

-- the root preimage of a head in the scheme's version and of a cut
pub root_by : (s : Scheme) (h : Head) (P : Cut) → h.version ≡ s.version
    → proof_preimage s.of h (Some P) ≡ root_preimage s.version h.batch h.count (record {
      level = h.level;
      rect = rect P;
      mask = mask s.version P;
      count = 0;
      digest = digest s h.level P;
    })
root_by s h P v = λ i. root_preimage (v i) h.batch h.count (record {
  level = h.level;
  rect = rect P;
  mask = mask (v i) P;
  count = 0;
  digest = digest (by (v i) s.of) h.level P;
})
