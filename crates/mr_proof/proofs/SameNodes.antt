-- Without two preimages that differ, a cut with the tree's rectangle, mask, count and digest is a
-- cut of the tree; else the first two are a collision.
use Rattle.std.proofs.Common.{◌≡◌, ℕ, ◌+◌, ◌-◌, ◌*◌, ◌<◌, ◌≤◌, ◌^◌, List, [], ◌∷◌, ◌++◌, map, length, refl, sym, ap, subst, ◌∙◌, inl, inr, arith}
use Rattle.std.specs.Prelude.{Option, Some, None, bytes_eq}
use Rattle.std.specs.List.{flat_map, AllByRecursion}
use Rattle.std.proofs.lemmas.Bool.{cases_Bool, false≢true}
use Rattle.std.proofs.lemmas.List.{nil_from_length, length-map, length-append}
use Rattle.std.proofs.lemmas.List.Elements.{recursion_from_All}
use Rattle.mr_geom.specs.Rectangle.{Rectangle}
use Rattle.mr_outside.specs.Bytes.{AreBytes}
use Rattle.mr_record.specs.Record.{IsRecord, HasLayer, record_bytes, rectangle_bytes}
use Rattle.mr_record.specs.declared.version.Version.{Version}
use Rattle.mr_record.specs.declared.version.Version.TheVariants.{One, Two}
use Rattle.mr_record.specs.Version.{told}
use Rattle.mr_record.specs.declared.record.Record.{Record}
use Rattle.mr_record.proofs.RecordFields.{length-rectangle_bytes}
use Rattle.mr_tree.specs.Limits.{count_limit, level_limit}
use Rattle.mr_tree.specs.Digest.{Scheme, entry_bytes, rect_bytes, word_bytes, node_preimage, level_over}
use Rattle.mr_tree.specs.Digest as digests
use Rattle.mr_tree.specs.private.Slim.{IsSlim, IsSlimNode}
use Rattle.mr_tree.specs.declared.entry.Entry.{Entry}
use Rattle.mr_tree.specs.declared.tree.Tree.{Tree}
use Rattle.mr_tree.specs.declared.tree.Tree.TheVariants as tree
use Rattle.mr_tree.specs.declared.tree.Tree.TheOpen as node
use Rattle.mr_tree.proofs.Equations.{entry_rect, entry_mask, entry_count, records-Inner, digest_of_preimage}
use Rattle.mr_tree.proofs.RootLengths.{length-word_bytes}
use Rattle.mr_tree.proofs.Induction.{tree_induction, here-Leaf, every_child}
use Rattle.mr_proof.specs.Cut.{Cut, Cuts, Pruned, Leaf, Inner, no_more, first, number_of_cuts, entry, entries, CutOf, CutsOf}
use Rattle.mr_proof.specs.declared.pruned_entry.PrunedEntry.{PrunedEntry}
use Rattle.mr_proof.specs.Spelling.{FitsShown, FitsCut, FitCuts}
use Rattle.mr_proof.specs.Clash.{Pair, differ, or_else, children, children_in, node_clash, children_clash, NoneAnd}
use Rattle.mr_proof.proofs.Values.{same_bytes, bytes_same}
use Rattle.mr_proof.proofs.Spellings.{fronts, cons_parts, same_word, same_rectangle, same_records}
use Rattle.mr_proof.proofs.LayeredTrees.{IsLayered, IsLayeredNode, HasFew, few_each, full_told}
use Rattle.mr_proof.proofs.Full.{IsFull, IsFullNode, IsThere, there_union, there_records, there_tree, not_full_empty}
use Rattle.mr_proof.proofs.PreimageBytes.{IsSized, preimage-Leaf, preimage-Inner, preimage_are_bytes, leaf_shown_bytes, below_are_bytes}

-- ---- no pair, or a collision

pub none_differ : (hash : List ℕ → List ℕ) (x y : List ℕ) → AreBytes x → AreBytes y → hash x ≡ hash y
    → NoneAnd hash (differ x (Some y)) (x ≡ y)
none_differ hash x y p q e = elim (cases_Bool (bytes_eq x y)) [
  | inl t ↦ rw t (same_bytes x y t)
  | inr f ↦ rw f (record {
    differ = λ is. false≢true (sym f ∙ bytes_same x y is);
    same = e;
    owned_bytes = p;
    shown_bytes = q;
  })
]

pub none_both : (hash : List ℕ → List ℕ) (c d : Option Pair) (K L : Type 0) → NoneAnd hash c K → (K → NoneAnd hash d L)
    → NoneAnd hash (or_else c d) L
none_both hash None d K L k f = f k
none_both hash (Some p) d K L k f = k

pub none_more : (hash : List ℕ → List ℕ) (c : Option Pair) (K L : Type 0) → NoneAnd hash c K → (K → L)
    → NoneAnd hash c L
none_more hash None K L k f = f k
none_more hash (Some p) K L k f = k

-- ---- entries

-- an entry with a rectangle that fits and a digest of 32 bytes
pub record IsNamed (e : Entry) : Type 0 where
  pub there : IsThere e.rect
  pub long : length e.digest ≡ 32

-- two entries of which a version spells the same
pub record SameEntry (v : Version) (e f : Entry) : Type 0 where
  pub rect : e.rect ≡ f.rect
  pub mask : word_bytes v e.mask ≡ word_bytes v f.mask
  pub count : word_bytes v e.count ≡ word_bytes v f.count
  pub digest : e.digest ≡ f.digest

pub rect_long : (o : Option Rectangle) → IsThere o → length (rect_bytes o) ≡ 16
rect_long o p = ap (λ (o : Option Rectangle). length (rect_bytes o)) p.is ∙ length-rectangle_bytes p.at

pub same_rect : (a b : Option Rectangle) → IsThere a → IsThere b → rect_bytes a ≡ rect_bytes b → a ≡ b
same_rect a b p q e =
    let is : rectangle_bytes p.at ≡ rectangle_bytes q.at = sym (ap rect_bytes p.is) ∙ e ∙ ap rect_bytes q.is in
    p.is ∙ ap (λ (r : Rectangle). Some r) (same_rectangle p.at q.at p.fits q.fits is) ∙ sym q.is

pub record SameFront (v : Version) (e f : Entry) (x y : List ℕ) : Type 0 where
  pub here : SameEntry v e f
  pub rest : x ≡ y

-- what stands behind the rectangle, and behind the mask
abbrev counted : Version → Entry → List ℕ
counted v e = word_bytes v e.count ++ e.digest

abbrev two_only : Version → Entry → List ℕ
two_only v e = word_bytes v e.mask ++ counted v e

words_long : (v : Version) (m n : ℕ) → length (word_bytes v m) ≡ length (word_bytes v n)
words_long v m n = length-word_bytes v m ∙ sym (length-word_bytes v n)

named_long : (v : Version) (e : Entry) → IsNamed e → length (entry_bytes v e) ≡ 48 + 2 * told v 8
named_long v e p = omega (
  arith,
  length-append (rect_bytes e.rect) (two_only v e),
  length-append (word_bytes v e.mask) (counted v e),
  length-append (word_bytes v e.count) e.digest,
  length-word_bytes v e.mask,
  length-word_bytes v e.count,
  rect_long e.rect p.there,
  p.long,
)

pub entry_front : (v : Version) (e f : Entry) (x y : List ℕ) → IsNamed e → IsNamed f
    → entry_bytes v e ++ x ≡ entry_bytes v f ++ y → SameFront v e f x y
entry_front v e f x y p q is =
    let whole = fronts (entry_bytes v e) (entry_bytes v f) x y (named_long v e p ∙ sym (named_long v f q)) is in
    let parts = fronts (rect_bytes e.rect) (rect_bytes f.rect) (two_only v e) (two_only v f)
    (rect_long e.rect p.there ∙ sym (rect_long f.rect q.there)) whole.front in
    let masks = fronts (word_bytes v e.mask) (word_bytes v f.mask) (counted v e) (counted v f)
    (words_long v e.mask f.mask) parts.rest in
    let counts = fronts (word_bytes v e.count) (word_bytes v f.count) e.digest f.digest
    (words_long v e.count f.count) masks.rest in
    record {
      here = record {
        rect = same_rect e.rect f.rect p.there q.there parts.front;
        mask = masks.front;
        count = counts.front;
        digest = counts.rest;
      };
      rest = whole.rest;
    }

-- words that a version tells, each in its range, with one spelling
pub told_word : (v : Version) (m n : ℕ) → m < 2 ^ told v 64 → n < 2 ^ told v 64 → word_bytes v m ≡ word_bytes v n
    → m ≡ n
told_word One m n p q e = omega (arith, p, q)
told_word Two m n p q e = same_word m n p q e

pub told_few : (v : Version) (n : ℕ) → n ≤ told v count_limit → n < 2 ^ told v 64
told_few One n few = omega (arith, few)
told_few Two n few = omega (arith, few)

pub named_tree : (s : Scheme) → ((m : List ℕ) → length (s.of m) ≡ 32) → (t : Tree) → IsFull t
    → IsNamed (digests.entry s t)
named_tree s sized t full = record {
  there = subst IsThere (sym (entry_rect s t)) (there_tree t full);
  long = ap length (digest_of_preimage s t) ∙ sized (digests.preimage s t);
}

rects_some : (s : Scheme) (v : ℕ) (Ps : Cuts) → 1 ≤ number_of_cuts Ps
    → 1 ≤ length (map (λ (e : Entry). e.rect) (entries s v Ps))
rects_some s v no_more some = absurd (omega arith)
rects_some s v (first P Ps) some = omega arith

mutual
  pub named_cut : (s : Scheme) → ((m : List ℕ) → length (s.of m) ≡ 32) → (v : ℕ) (P : Cut) → FitsCut s.version v P
      → IsNamed (entry s v P)
  named_cut s sized v (Pruned x) fit = record {
    there = record { at = x.rect; is = refl; ordered = fit.ordered; fits = fit.coordinates };
    long = fit.digest;
  }
  named_cut s sized v (Leaf rs) fit =
      record { there = there_records rs fit.some (recursion_from_All IsRecord rs fit.each); long = sized _ }
  named_cut s sized v (Inner cuts) fit = record {
    there = there_union (map (λ (e : Entry). e.rect) (entries s (v - 1) cuts))
        (rects_some s (v - 1) cuts fit.0.some) (named_cuts s sized (v - 1) cuts fit.1);
    long = sized _;
  }

  pub named_cuts : (s : Scheme) → ((m : List ℕ) → length (s.of m) ≡ 32) → (v : ℕ) (Ps : Cuts)
      → FitCuts s.version v Ps → AllByRecursion IsThere (map (λ (e : Entry). e.rect) (entries s v Ps))
  named_cuts s sized v no_more fit = tt
  named_cuts s sized v (first P Ps) fit =
      ((named_cut s sized v P fit.0).there, named_cuts s sized v Ps fit.1)

-- ---- one node

record Counted (n m : ℕ) (x y : List ℕ) : Type 0 where
  count : n ≡ m
  rest : x ≡ y

second_on : (a b n m : ℕ) (x y : List ℕ) → a ∷ n ∷ x ≡ b ∷ m ∷ y → Counted n m x y
second_on a b n m x y e = record { count = cc; rest = cc }

third_on : (a b c d n m : ℕ) (x y : List ℕ) → a ∷ c ∷ n ∷ x ≡ b ∷ d ∷ m ∷ y → Counted n m x y
third_on a b c d n m x y e = record { count = cc; rest = cc }

other_letter : (x y : List ℕ) → (0x4c ∷ x) ≡ (0x4e ∷ y) → ⊥
other_letter x y e = let h = (cons_parts 0x4c 0x4e x y e).0 in omega arith

leaf_same : (s : Scheme) (rs : List Record) → AllByRecursion IsRecord rs → AllByRecursion (HasLayer s.version) rs
    → (t : Tree) → IsFull t → IsLayered s.version t
    → digests.preimage s t ≡ 0x4c ∷ length rs ∷ flat_map (record_bytes s.version) rs → t ≡ tree.Leaf rs
leaf_same s rs each layers =
    let v = s.version in
    tree_induction (λ t. IsFull t → IsLayered v t
    → digests.preimage s t ≡ 0x4c ∷ length rs ∷ flat_map (record_bytes s.version) rs → t ≡ tree.Leaf rs)
    (λ full layered e. absurd (not_full_empty full))
    (λ ss full layered e.
    let own = here-Leaf IsFullNode ss full in
    let low = here-Leaf (IsLayeredNode v) ss layered in
    let c = second_on 0x4c 0x4c (length ss) (length rs) (flat_map (record_bytes v) ss) (flat_map (record_bytes v) rs)
    (sym (preimage-Leaf s ss) ∙ e) in
    ap tree.Leaf (same_records v ss rs own.1 low each layers c.count c.rest))
    (λ ts below full layered e. absurd (other_letter _ _ (sym e ∙ preimage-Inner s ts)))

-- an inner node with these entries
record InnerWith (s : Scheme) (es : List Entry) (t : Tree) : Type 0 where
  is : t ≡ tree.Inner (children t)
  full : AllByRecursion IsFull (children t)
  slim : AllByRecursion IsSlim (children t)
  layered : AllByRecursion (IsLayered s.version) (children t)
  few : AllByRecursion HasFew (children t)
  count : length (children t) ≡ length es
  bytes : flat_map (entry_bytes s.version) (map (digests.entry s) (children t)) ≡ flat_map (entry_bytes s.version) es

inner_with : (s : Scheme) (es : List Entry) (ts : List Tree) → IsFull (tree.Inner ts) → IsSlim (tree.Inner ts)
    → IsLayered s.version (tree.Inner ts) → HasFew (tree.Inner ts) → length ts ≡ length es
    → flat_map (entry_bytes s.version) (map (digests.entry s) ts) ≡ flat_map (entry_bytes s.version) es
    → InnerWith s es (tree.Inner ts)
inner_with s es ts full slim layered few count bytes =
    let same : children (tree.Inner ts) ≡ ts = ap children_in (tree.outs-Inner ts) in
    record {
      is = ap tree.Inner (sym same);
      full = subst (AllByRecursion IsFull) (sym same) (every_child IsFullNode ts full);
      slim = subst (AllByRecursion IsSlim) (sym same) (every_child IsSlimNode ts slim);
      layered = subst (AllByRecursion (IsLayered s.version)) (sym same)
          (every_child (IsLayeredNode s.version) ts layered);
      few = subst (AllByRecursion HasFew) (sym same) (few_each ts (subst (λ (rs : List Record). length rs ≤ count_limit)
          (records-Inner ts) few));
      count = ap length same ∙ count;
      bytes = ap (λ (us : List Tree). flat_map (entry_bytes s.version) (map (digests.entry s) us)) same ∙ bytes;
    }

inner_same : (s : Scheme) (es : List Entry) (t : Tree) → IsFull t → IsSlim t → IsLayered s.version t → HasFew t
    → digests.preimage s t ≡ node_preimage s.version (node.Inner es) → InnerWith s es t
inner_same s es =
    tree_induction
    (λ t. IsFull t → IsSlim t → IsLayered s.version t → HasFew t
    → digests.preimage s t ≡ node_preimage s.version (node.Inner es) → InnerWith s es t)
    (λ full slim layered few e. absurd (not_full_empty full))
    (λ ss full slim layered few e. absurd (other_letter _ _ (sym (preimage-Leaf s ss) ∙ e)))
    (λ ts below full slim layered few e.
    let own = map (digests.entry s) ts in
    let c = third_on 0x4e 0x4e (level_over own) (level_over es) (length own) (length es)
    (flat_map (entry_bytes s.version) own) (flat_map (entry_bytes s.version) es) (sym (preimage-Inner s ts) ∙ e) in
    inner_with s es ts full slim layered few (sym (length-map ts (digests.entry s)) ∙ c.count) c.rest)

-- ---- all nodes

same_hash : (s : Scheme) (t : Tree) (x : List ℕ) → digests.digest s t ≡ s.of x
    → s.of (digests.preimage s t) ≡ s.of x
same_hash s t x e = sym (digest_of_preimage s t) ∙ e

abbrev below : Scheme → ℕ → Cuts → List ℕ
below s v cuts = node_preimage s.version (node.Inner (entries s (v - 1) cuts))

-- a pruned part with the tree's entry is a cut of it
pruned_same : (s : Scheme) (v : ℕ) (t : Tree) (x : PrunedEntry) → IsFull t → HasFew t → FitsShown s.version x
    → SameEntry s.version (digests.entry s t) (entry s v (Pruned x)) → CutOf s (Pruned x) t
pruned_same s v t x full few fit e =
    let w = s.version in
    let own = digests.entry s t in
    let told = full_told s t full few in (
      sym e.rect ∙ entry_rect s t,
      sym (told_word w own.mask x.mask told.fits fit.mask e.mask) ∙ entry_mask s t,
      sym (told_word w own.count x.count (told_few w own.count told.few) (told_few w x.count fit.few) e.count)
          ∙ entry_count s t,
      sym e.digest,
    )

mutual
  pub cut_or_clash : (s : Scheme) → IsSized s.of → (v : ℕ) (t : Tree) (P : Cut) → v ≤ level_limit
      → IsFull t → IsSlim t → IsLayered s.version t → HasFew t → FitsCut s.version v P
      → SameEntry s.version (digests.entry s t) (entry s v P) → NoneAnd s.of (node_clash s s v t P) (CutOf s P t)
  cut_or_clash s h v t (Pruned x) low full slim layered few fit e = pruned_same s v t x full few fit e
  cut_or_clash s h v t (Leaf rs) low full slim layered few fit e =
      let x = digests.preimage s t in
      let y = node_preimage s.version (node.Leaf rs) in
      none_more s.of (differ x (Some y)) (x ≡ y) (t ≡ tree.Leaf rs)
      (none_differ s.of x y (preimage_are_bytes s h t full slim) (leaf_shown_bytes s.version v rs fit)
      (same_hash s t y e.digest))
      (leaf_same s rs (recursion_from_All IsRecord rs fit.each) (recursion_from_All (HasLayer s.version) rs fit.layers)
      t full layered)
  cut_or_clash s h v t (Inner cuts) low full slim layered few fit e =
      let x = digests.preimage s t in
      let y = below s v cuts in
      none_both s.of (differ x (Some y)) (children_clash s s (v - 1) (children t) cuts) (x ≡ y)
      (CutOf s (Inner cuts) t)
      (none_differ s.of x y (preimage_are_bytes s h t full slim) (below_are_bytes s h v cuts low fit)
      (same_hash s t y e.digest))
      (λ same.
      let n = inner_same s (entries s (v - 1) cuts) t full slim layered few same in
      none_more s.of (children_clash s s (v - 1) (children t) cuts) (CutsOf s cuts (children t))
      (CutOf s (Inner cuts) t)
      (cuts_or_clash s h (v - 1) (children t) cuts (omega (arith, low)) n.full n.slim n.layered n.few fit.1 n.count
      n.bytes)
      (λ all. (children t, n.is, all)))

  pub cuts_or_clash : (s : Scheme) → IsSized s.of → (v : ℕ) (ts : List Tree) (Ps : Cuts) → v ≤ level_limit
      → AllByRecursion IsFull ts → AllByRecursion IsSlim ts → AllByRecursion (IsLayered s.version) ts
      → AllByRecursion HasFew ts → FitCuts s.version v Ps → length ts ≡ length (entries s v Ps)
      → flat_map (entry_bytes s.version) (map (digests.entry s) ts) ≡ flat_map (entry_bytes s.version) (entries s v Ps)
      → NoneAnd s.of (children_clash s s v ts Ps) (CutsOf s Ps ts)
  cuts_or_clash s h v ts no_more low full slim layered few fit long e = nil_from_length ts long
  cuts_or_clash s h v [] (first P Ps) low full slim layered few fit long e = absurd (omega arith)
  cuts_or_clash s h v (t ∷ ts) (first P Ps) low full slim layered few fit long e =
      let c = entry_front s.version (digests.entry s t) (entry s v P)
      (flat_map (entry_bytes s.version) (map (digests.entry s) ts)) (flat_map (entry_bytes s.version) (entries s v Ps))
      (named_tree s h.long t full.0) (named_cut s h.long v P fit.0) e in
      none_both s.of (node_clash s s v t P) (children_clash s s v ts Ps) (CutOf s P t)
      (CutsOf s (first P Ps) (t ∷ ts))
      (cut_or_clash s h v t P low full.0 slim.0 layered.0 few.0 fit.0 c.here) (λ one.
      none_more s.of (children_clash s s v ts Ps) (CutsOf s Ps ts) (CutsOf s (first P Ps) (t ∷ ts))
      (cuts_or_clash s h v ts Ps low full.1 slim.1 layered.1 few.1 fit.1 (omega arith) c.rest)
      (λ all. (t, ts, refl, one, all)))
