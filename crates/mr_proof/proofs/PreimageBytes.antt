-- The preimages and digests of a tree that is not empty, and those of a cut, are bytes.
use Rattle.std.proofs.Common.{◌≡◌, ◌⊎◌, ℕ, zero, suc, ◌+◌, ◌-◌, ◌<◌, ◌≤◌, ◌^◌, Bool, true, false, cond, eqb, List, [], ◌∷◌, ◌++◌, map, length, refl, sym, ap, subst, ◌∙◌, inl, inr, arith}
use Rattle.std.specs.Prelude.{Option, Some, None}
use Rattle.std.specs.Int.{w32, w64, byte_at, bytes_high_first, to_be_bytes, cast_unsigned}
use Rattle.std.specs.List.{flat_map, AllByRecursion}
use Rattle.std.proofs.lemmas.List.{length-map}
use Rattle.std.proofs.lemmas.List.Concat.{flat_map-cons}
use Rattle.std.proofs.lemmas.List.Elements.{All-append, All-cons, All-nil, All-replicate, recursion_from_All}
use Rattle.mr_geom.specs.Rectangle.{Rectangle}
use Rattle.mr_outside.specs.Bytes.{AreBytes}
use Rattle.mr_record.specs.Record.{IsRecord, record_bytes, rectangle_bytes, coordinate_bytes, layer_bytes}
use Rattle.mr_record.specs.declared.version.Version.{Version}
use Rattle.mr_record.specs.declared.version.Version.TheVariants.{One, Two}
use Rattle.mr_record.specs.declared.record.Record.{Record}
use Rattle.mr_record.specs.Version.{version_byte}
use Rattle.mr_tree.specs.Limits.{level_limit, leaf_limit, inner_limit}
use Rattle.mr_tree.specs.Tree.{level, first_level, records}
use Rattle.mr_tree.specs.Digest.{Scheme, by, entry, no_entry, entry_bytes, root_entry_bytes, rect_bytes, word_bytes, level_over, node_preimage, root_preimage, root_preimage_of, preimage, digest}
use Rattle.mr_tree.specs.Digest.{leaf_tag, inner_tag, root_tag, empty_tag}
use Rattle.mr_tree.specs.WellFormed.{WellFormed}
use Rattle.mr_tree.specs.private.Slim.{IsSlim, IsSlimNode}
use Rattle.mr_tree.specs.declared.entry.Entry.{Entry}
use Rattle.mr_tree.specs.declared.tree.Tree.{Tree}
use Rattle.mr_tree.specs.declared.tree.Tree.TheVariants as tree
use Rattle.mr_tree.specs.declared.tree.Tree.TheOpen as node
use Rattle.mr_tree.specs.declared.tree.Tree.TheOpen.{Tree-F}
use Rattle.mr_tree.specs.declared.tree.Tree.TheFolds.{map-Tree}
use Rattle.mr_tree.proofs.Equations.{entry_level, digest_of_preimage, records-Empty}
use Rattle.mr_tree.proofs.Induction.{tree_induction, here-Leaf, here-Inner, every_child}
use Rattle.mr_tree.proofs.Slim.{slim_tree}
use Rattle.mr_proof.specs.declared.head.Head.{Head}
use Rattle.mr_proof.specs.Cut.{Cut, Cuts, Pruned, Leaf, Inner, no_more, first}
use Rattle.mr_proof.specs.Cut as cut
use Rattle.mr_proof.specs.Spelling.{FitsLeaf, FitsCut, FitCuts, FitsProofHead, FitsPart}
use Rattle.mr_proof.specs.Accepted.{proof_preimage}
use Rattle.mr_proof.proofs.CutLevels.{length-entries, first_at_level}
use Rattle.mr_proof.proofs.Full.{IsFull, IsFullNode, not_full_empty}

-- a hash of bytes in 32 bytes
pub record IsSized (hash : List ℕ → List ℕ) : Type 0 where
  pub long : (m : List ℕ) → length (hash m) ≡ 32
  pub bytes : (m : List ℕ) → AreBytes m → AreBytes (hash m)

abbrev IsByte : ℕ → Type 0
IsByte b = b < 2 ^ 8

both : (xs ys : List ℕ) → AreBytes xs → AreBytes ys → AreBytes (xs ++ ys)
both xs ys p q = All-append IsByte xs ys p q

one_more : (b : ℕ) (xs : List ℕ) → b < 2 ^ 8 → AreBytes xs → AreBytes (b ∷ xs)
one_more b xs p q = All-cons IsByte b xs p q

none : AreBytes []
none = All-nil IsByte

byte_below : (i n : ℕ) → byte_at i n < 2 ^ 8
byte_below zero n = omega arith
byte_below (suc i) n = omega arith

high_first : (k n : ℕ) → AreBytes (bytes_high_first k n)
high_first zero n = none
high_first (suc k) n = one_more (byte_at k n) (bytes_high_first k n) (byte_below k n) (high_first k n)

rectangle_are_bytes : (r : Rectangle) → AreBytes (rectangle_bytes r)
unfolding rectangle_bytes
rectangle_are_bytes r =
    let a = high_first 4 (cast_unsigned w32 r.x0) in
    let b = high_first 4 (cast_unsigned w32 r.y0) in
    let c = high_first 4 (cast_unsigned w32 r.x1) in
    let d = high_first 4 (cast_unsigned w32 r.y1) in
    both (coordinate_bytes r.x0) (coordinate_bytes r.y0 ++ coordinate_bytes r.x1 ++ coordinate_bytes r.y1) a
    (both (coordinate_bytes r.y0) (coordinate_bytes r.x1 ++ coordinate_bytes r.y1) b
    (both (coordinate_bytes r.x1) (coordinate_bytes r.y1) c d))

layer_are_bytes : (v : Version) (layer : ℕ) → layer ≤ 63 → AreBytes (layer_bytes v layer)
layer_are_bytes One layer low = none
layer_are_bytes Two layer low = one_more layer [] (omega (arith, low)) none

record_are_bytes : (v : Version) (r : Record) → IsRecord r → AreBytes (record_bytes v r)
unfolding record_bytes
record_are_bytes v r fit =
    let few = fit.payload in
    both (to_be_bytes w64 r.number ++ rectangle_bytes r.rect ++ layer_bytes v r.layer) (length r.payload ∷ r.payload)
    (both (to_be_bytes w64 r.number ++ rectangle_bytes r.rect) (layer_bytes v r.layer)
    (both (to_be_bytes w64 r.number) (rectangle_bytes r.rect) (high_first 8 r.number) (rectangle_are_bytes r.rect))
    (layer_are_bytes v r.layer fit.layer))
    (one_more (length r.payload) r.payload (omega (arith, few)) fit.bytes)

records_are_bytes : (v : Version) (rs : List Record) → AllByRecursion IsRecord rs
    → AreBytes (flat_map (record_bytes v) rs)
records_are_bytes v [] all = none
records_are_bytes v (r ∷ rs) all =
    subst AreBytes (sym (flat_map-cons (record_bytes v) r rs))
    (both (record_bytes v r) (flat_map (record_bytes v) rs) (record_are_bytes v r all.0) (records_are_bytes v rs all.1))

word_are_bytes : (v : Version) (n : ℕ) → AreBytes (word_bytes v n)
word_are_bytes One n = none
word_are_bytes Two n = high_first 8 n

rect_are_bytes : (o : Option Rectangle) → AreBytes (rect_bytes o)
rect_are_bytes None = none
rect_are_bytes (Some r) = rectangle_are_bytes r

-- ---- nodes

leaf_are_bytes : (v : Version) (rs : List Record) → length rs ≤ leaf_limit → AllByRecursion IsRecord rs
    → AreBytes (node_preimage v (node.Leaf rs))
leaf_are_bytes v rs few each =
    let text = flat_map (record_bytes v) rs in
    one_more leaf_tag (length rs ∷ text) (omega arith)
    (one_more (length rs) text (omega (arith, few)) (records_are_bytes v rs each))

abbrev HasByteDigest : Entry → Type 0
HasByteDigest e = AreBytes e.digest

entries_are_bytes : (v : Version) (es : List Entry) → AllByRecursion HasByteDigest es
    → AreBytes (flat_map (entry_bytes v) es)
entries_are_bytes v [] all = none
entries_are_bytes v (e ∷ es) all =
    subst AreBytes (sym (flat_map-cons (entry_bytes v) e es))
    (both (entry_bytes v e) (flat_map (entry_bytes v) es)
    (both (rect_bytes e.rect) (word_bytes v e.mask ++ (word_bytes v e.count ++ e.digest)) (rect_are_bytes e.rect)
    (both (word_bytes v e.mask) (word_bytes v e.count ++ e.digest) (word_are_bytes v e.mask)
    (both (word_bytes v e.count) e.digest (word_are_bytes v e.count) all.0)))
    (entries_are_bytes v es all.1))

inner_are_bytes : (v : Version) (es : List Entry) → level_over es ≤ level_limit → length es ≤ inner_limit
    → AllByRecursion HasByteDigest es → AreBytes (node_preimage v (node.Inner es))
inner_are_bytes v es low few all =
    let text = flat_map (entry_bytes v) es in
    one_more inner_tag (level_over es ∷ length es ∷ text) (omega arith)
    (one_more (level_over es) (length es ∷ text) (omega (arith, low))
    (one_more (length es) text (omega (arith, few)) (entries_are_bytes v es all)))

-- ---- roots

version_is_byte : (v : Version) → version_byte v < 2 ^ 8
version_is_byte One = omega arith
version_is_byte Two = omega arith

either_are_bytes : (b : Bool) (xs ys : List ℕ) → AreBytes xs → AreBytes ys → AreBytes (cond b xs ys)
either_are_bytes true xs ys p q = p
either_are_bytes false xs ys p q = q

root_are_bytes : (v : Version) (batch count : ℕ) (e : Entry) → e.level ≤ level_limit → AreBytes e.digest
    → AreBytes (root_preimage v batch count e)
root_are_bytes v batch count e low own =
    let b = to_be_bytes w64 batch in
    let c = to_be_bytes w64 count in
    let said = root_entry_bytes v e in
    let same : AreBytes said = both (rect_bytes e.rect) (word_bytes v e.mask ++ e.digest) (rect_are_bytes e.rect)
    (both (word_bytes v e.mask) e.digest (word_are_bytes v e.mask) own) in
    either_are_bytes (eqb count 0) (empty_tag ∷ version_byte v ∷ b)
    (root_tag ∷ version_byte v ∷ (b ++ c ++ e.level ∷ said))
    (one_more empty_tag (version_byte v ∷ b) (omega arith)
    (one_more (version_byte v) b (version_is_byte v) (high_first 8 batch)))
    (one_more root_tag (version_byte v ∷ (b ++ c ++ e.level ∷ said)) (omega arith)
    (one_more (version_byte v) (b ++ c ++ e.level ∷ said) (version_is_byte v)
    (both (b ++ c) (e.level ∷ said) (both b c (high_first 8 batch) (high_first 8 count))
    (one_more e.level said (omega (arith, low)) same))))

-- ---- of a tree

pub preimage-Leaf : (s : Scheme) (rs : List Record)
    → preimage s (tree.Leaf rs) ≡ leaf_tag ∷ length rs ∷ flat_map (record_bytes s.version) rs
preimage-Leaf s rs =
    ap (λ (x : Tree-F Tree). node_preimage s.version (map-Tree Tree Entry (entry s) x)) (tree.outs-Leaf rs)

pub preimage-Inner : (s : Scheme) (ts : List Tree)
    → preimage s (tree.Inner ts) ≡ node_preimage s.version (node.Inner (map (entry s) ts))
preimage-Inner s ts =
    ap (λ (x : Tree-F Tree). node_preimage s.version (map-Tree Tree Entry (entry s) x)) (tree.outs-Inner ts)

abbrev HasBytes : Scheme → Tree → Type 0
HasBytes s t = IsFull t → IsSlim t → AreBytes (preimage s t)

hashed_bytes : (s : Scheme) → IsSized s.of → (t : Tree) → AreBytes (preimage s t) → AreBytes (digest s t)
hashed_bytes s h t own = subst AreBytes (sym (digest_of_preimage s t)) (h.bytes (preimage s t) own)

children_have_bytes : (s : Scheme) → IsSized s.of → (ts : List Tree) → AllByRecursion (HasBytes s) ts
    → AllByRecursion IsFull ts → AllByRecursion IsSlim ts → AllByRecursion HasByteDigest (map (entry s) ts)
children_have_bytes s h [] all full slim = tt
children_have_bytes s h (t ∷ ts) all full slim =
    (hashed_bytes s h t (all.0 full.0 slim.0), children_have_bytes s h ts all.1 full.1 slim.1)

levels_same : (s : Scheme) (ts : List Tree)
    → map (λ (e : Entry). e.level) (map (entry s) ts) ≡ map level ts
levels_same s [] = refl
levels_same s (t ∷ ts) = λ i. entry_level s t i ∷ levels_same s ts i

leaf_has_bytes : (s : Scheme) (rs : List Record) → HasBytes s (tree.Leaf rs)
leaf_has_bytes s rs full slim =
    let own = here-Leaf IsFullNode rs full in
    subst AreBytes (sym (preimage-Leaf s rs)) (leaf_are_bytes s.version rs (here-Leaf IsSlimNode rs slim) own.1)

inner_has_bytes : (s : Scheme) → IsSized s.of → (ts : List Tree) → AllByRecursion (HasBytes s) ts
    → HasBytes s (tree.Inner ts)
inner_has_bytes s h ts all full slim =
    let own = here-Inner IsSlimNode ts slim in
    let few = own.0 in
    let low = own.1 in
    let entries = map (entry s) ts in
    let long : length entries ≡ length ts = length-map ts (entry s) in
    let high : level_over entries ≡ first_level (map level ts) + 1 =
    ap (λ (ns : List ℕ). first_level ns + 1) (levels_same s ts) in
    subst AreBytes (sym (preimage-Inner s ts))
    (inner_are_bytes s.version entries (omega (arith, high, low)) (omega (arith, long, few))
    (children_have_bytes s h ts all (every_child IsFullNode ts full) (every_child IsSlimNode ts slim)))

pub preimage_are_bytes : (s : Scheme) → IsSized s.of → (t : Tree) → HasBytes s t
preimage_are_bytes s h = tree_induction (HasBytes s)
    (λ full slim. absurd (not_full_empty full))
    (leaf_has_bytes s)
    (inner_has_bytes s h)

pub digest_are_bytes : (s : Scheme) → IsSized s.of → (t : Tree) → IsFull t → IsSlim t → AreBytes (digest s t)
digest_are_bytes s h t full slim = hashed_bytes s h t (preimage_are_bytes s h t full slim)

-- those of the root of a map
pub root_of_are_bytes : (s : Scheme) → IsSized s.of → (t : Tree) (batch : ℕ) → WellFormed t
    → (t ≡ tree.Empty) ⊎ IsFull t → AreBytes (root_preimage_of s t batch)
root_of_are_bytes s h t batch well (inl is) =
    let zero : length (records t) ≡ 0 = ap (λ (t : Tree). length (records t)) is ∙ ap length records-Empty in
    subst AreBytes (sym (ap (λ (n : ℕ). root_preimage s.version batch n (entry s t)) zero))
    (root_are_bytes s.version batch 0 no_entry (omega arith) (All-replicate IsByte 32 0 (omega arith)))
root_of_are_bytes s h t batch well (inr full) =
    let shallow = well.shallow in
    root_are_bytes s.version batch (length (records t)) (entry s t) (omega (arith, entry_level s t, shallow))
    (digest_are_bytes s h t full (slim_tree t well))

-- ---- of a cut

pub leaf_shown_bytes : (v : Version) (w : ℕ) (rs : List Record) → FitsLeaf v w rs
    → AreBytes (node_preimage v (node.Leaf rs))
leaf_shown_bytes v w rs fit = leaf_are_bytes v rs fit.few (recursion_from_All IsRecord rs fit.each)

-- by the digests of the entries below it
inner_shown_bytes : (s : Scheme) (v : ℕ) (Ps : Cuts) → v ≤ level_limit → FitsCut s.version v (Inner Ps)
    → AllByRecursion HasByteDigest (cut.entries s (v - 1) Ps)
    → AreBytes (node_preimage s.version (node.Inner (cut.entries s (v - 1) Ps)))
inner_shown_bytes s v Ps low fit all =
    let at = first_at_level s (v - 1) Ps fit.0.some fit.1 in
    let above = fit.0.above in
    let few = fit.0.few in
    inner_are_bytes s.version (cut.entries s (v - 1) Ps) (omega (arith, at, above, low))
    (omega (arith, length-entries s (v - 1) Ps, few)) all

mutual
  pub cut_digest_bytes : (s : Scheme) → IsSized s.of → (v : ℕ) (P : Cut) → v ≤ level_limit → FitsCut s.version v P
      → AreBytes (cut.digest s v P)
  cut_digest_bytes s h v (Pruned x) low fit = fit.bytes
  cut_digest_bytes s h v (Leaf rs) low fit = h.bytes _ (leaf_shown_bytes s.version v rs fit)
  cut_digest_bytes s h v (Inner Ps) low fit =
      h.bytes _ (inner_shown_bytes s v Ps low fit (cut_digests_bytes s h (v - 1) Ps (omega (arith, low)) fit.1))

  cut_digests_bytes : (s : Scheme) → IsSized s.of → (w : ℕ) (Ps : Cuts) → w ≤ level_limit
      → FitCuts s.version w Ps → AllByRecursion HasByteDigest (cut.entries s w Ps)
  cut_digests_bytes s h w no_more low fit = tt
  cut_digests_bytes s h w (first P Ps) low fit =
      (cut_digest_bytes s h w P low fit.0, cut_digests_bytes s h w Ps low fit.1)

pub below_are_bytes : (s : Scheme) → IsSized s.of → (v : ℕ) (Ps : Cuts) → v ≤ level_limit
    → FitsCut s.version v (Inner Ps) → AreBytes (node_preimage s.version (node.Inner (cut.entries s (v - 1) Ps)))
below_are_bytes s h v Ps low fit =
    inner_shown_bytes s v Ps low fit (cut_digests_bytes s h (v - 1) Ps (omega (arith, low)) fit.1)

-- and of the root that a head and a cut are of
pub shown_root_bytes : (hash : List ℕ → List ℕ) → IsSized hash → (h : Head) (P : Option Cut) → FitsProofHead h
    → FitsPart h P → AreBytes (proof_preimage hash h P)
shown_root_bytes hash sized h None head part =
    root_are_bytes h.version h.batch 0 (record { level = 0; rect = None; mask = 0; count = 0; digest = [] })
    (omega arith) none
shown_root_bytes hash sized h (Some P) head part =
    root_are_bytes h.version h.batch h.count
    (record {
      level = h.level;
      rect = cut.rect P;
      mask = cut.mask h.version P;
      count = 0;
      digest = cut.digest (by h.version hash) h.level P;
    }) head.level (cut_digest_bytes (by h.version hash) sized h.level P head.level part.1)
