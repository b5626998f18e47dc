-- The honest proof is accepted, with the answer of a scan of the tree.
use Rattle.std.proofs.Common.{◌≡◌, ℕ, ◌+◌, ◌-◌, ◌<◌, ◌≤◌, ◌^◌, true, false, eqb, List, [], ◌∷◌, ◌++◌, map, length, Option, Some, None, refl, sym, ap, subst, ◌∙◌, inl, inr, arith}
use Rattle.std.specs.Prelude.{IfSome, filter}
use Rattle.std.specs.List.{AllByRecursion}
use Rattle.std.specs.Int.{w64, to_be_bytes}
use Rattle.std.proofs.lemmas.List.{length-append}
use Rattle.std.proofs.lemmas.Bool.{cases_Bool}
use Rattle.std.proofs.lemmas.List.Elements.{All-from_recursion, recursion_from_All}
use Rattle.mr_record.specs.Record.{IsRecord, HasLayer}
use Rattle.mr_record.specs.declared.record.Record.{Record}
use Rattle.mr_tree.specs.Tree.{level, records}
use Rattle.mr_tree.specs.Digest.{Scheme, entry_step, digest, root, root_preimage}
use Rattle.mr_tree.specs.declared.entry.Entry.{Entry}
use Rattle.mr_record.specs.Version.{told}
use Rattle.mr_tree.specs.Digest as digests
use Rattle.mr_tree.specs.private.Slim.{IsSlim, IsSlimNode}
use Rattle.mr_tree.specs.WellFormed.{WellFormed, HasLayers, HasOneLevel}
use Rattle.mr_tree.specs.declared.tree.Tree.{Tree}
use Rattle.mr_tree.specs.declared.tree.Tree.TheVariants as tree
use Rattle.mr_tree.specs.declared.tree.Tree.TheOpen as node
use Rattle.mr_tree.specs.declared.tree.Tree.TheFolds.{every-Tree}
use Rattle.mr_tree.proofs.Equations.{level-Leaf, level-Inner, level-Empty, records-Empty, records-Inner, digest_of_preimage, entry_rect, entry_mask, entry_count, entry_level}
use Rattle.mr_tree.proofs.Induction.{tree_induction, here-Leaf, here-Inner, every_child}
use Rattle.mr_tree.proofs.Slim.{slim_tree}
use Rattle.mr_query.specs.Word.{IsQuery}
use Rattle.mr_query.specs.declared.query.Query.{Query}
use Rattle.mr_query.specs.Scan.{scan}
use Rattle.mr_proof.specs.declared.way.Way.{Way}
use Rattle.mr_proof.specs.declared.head.Kind.{Kind}
use Rattle.mr_proof.specs.declared.head.Kind.TheVariants as kind
use Rattle.mr_proof.specs.declared.pruned_entry.PrunedEntry.{PrunedEntry}
use Rattle.mr_proof.specs.Cut as cut
use Rattle.mr_proof.specs.Cut.{Cut, Cuts, Pruned, Leaf, Inner, no_more, first, number_of_cuts, entry, entries, CutOf, CutsOf}
use Rattle.mr_proof.specs.Spelling.{FitsCut, FitCuts, FitsShown, FitsLeaf, FitsInner, FitsProofHead, FitsPart, head_bytes, cut_bytes, part_bytes, radius_bytes, level_bytes, opened_records}
use Rattle.mr_query.specs.Region.{record_key}
use Rattle.mr_query.specs.declared.key.Key.{Key}
use Rattle.mr_proof.specs.Limits.{count_limit}
use Rattle.mr_proof.specs.Tight.{opens_at, Question, MayCome, radius_by, IsLawful, question, IsTight}
use Rattle.mr_proof.specs.Accepted.{proof_preimage, ShowsCut}
use Rattle.mr_proof.specs.Honest.{ways_of, honest_cut, honest_head, honest_part, honest_said, proof_for, proof}
use Rattle.mr_proof.specs.Halves.{AcceptsHonestProof, IsHonestProof, AcceptsHonest}
use Rattle.mr_proof.proofs.LayeredTrees.{IsLayered, IsLayeredNode, layered_tree, HasFew, few_each, full_told}
use Rattle.mr_proof.proofs.Full.{IsFull, IsFullNode, there_tree, some_record, not_full_empty, empty_or_full}
use Rattle.mr_proof.proofs.HonestCut.{meets, counted_cut, known_out, honest_cuts, honest_missed, shown_of, pruned_shown, honest_met, honest_good, some_part, no_part}
use Rattle.mr_proof.proofs.KeptRecords.{narrow_misses, kept}
use Rattle.mr_proof.proofs.Laws.{is_lawful, either_comes, fits_version, same_radius, same_answer, radius_fits}
use Rattle.mr_proof.proofs.HonestSize.{cut_short}
use Rattle.mr_proof.proofs.PreimageBytes.{IsSized, digest_are_bytes}
use Rattle.mr_proof.proofs.Completeness.{checked_from, verdict_from}
use Rattle.mr_proof.proofs.Preimages.{entry-rect, entry-mask, root_by}
use Rattle.mr_proof.proofs.Values.{word_long, wide_long}

-- ---- what is known of a tree by a cut of it

-- each tree of this level
abbrev pub Levels : ℕ → List Tree → Type 0
Levels v ts = AllByRecursion (λ t. level t ≡ v) ts

abbrev pub Even : List Tree → Type 0
Even ts = AllByRecursion (every-Tree HasOneLevel) ts

pub below_levels : (v : ℕ) (ts : List Tree) → every-Tree HasOneLevel (tree.Inner ts) → level (tree.Inner ts) ≡ v
    → Levels (v - 1) ts
below_levels v ts even e =
    recursion_from_All (λ t. level t ≡ v - 1) ts
    (λ k d within. let one = (here-Inner HasOneLevel ts even k d within).1 in let up = level-Inner ts in omega arith)

leaf_entry : (s : Scheme) (rs : List Record) (t : Tree) → t ≡ tree.Leaf rs
    → entry_step s (node.Leaf rs) ≡ digests.entry s t
leaf_entry s rs t c =
    sym (ap (digests.entry s) c ∙ known_out s (tree.Leaf rs) (node.Leaf rs) (tree.outs-Leaf rs))

inner_entry : (s : Scheme) (ts : List Tree) (t : Tree) → t ≡ tree.Inner ts
    → entry_step s (node.Inner (map (digests.entry s) ts)) ≡ digests.entry s t
inner_entry s ts t c =
    sym (ap (digests.entry s) c ∙ known_out s (tree.Inner ts) (node.Inner ts) (tree.outs-Inner ts))

mutual
  pub entry_cut : (s : Scheme) (v : ℕ) (P : Cut) (t : Tree) → CutOf s P t
      → every-Tree HasOneLevel t → level t ≡ v → entry s v P ≡ digests.entry s t
  entry_cut s v (Pruned x) t c even e = λ i. record {
    level = (sym e ∙ sym (entry_level s t)) i;
    rect = (c.0 ∙ sym (entry_rect s t)) i;
    mask = (c.1 ∙ sym (entry_mask s t)) i;
    count = (c.2 ∙ sym (entry_count s t)) i;
    digest = c.3 i;
  }
  entry_cut s v (Leaf rs) t c even e = leaf_entry s rs t c
  entry_cut s v (Inner cuts) t c even e =
      let evens = subst (every-Tree HasOneLevel) c.1 even in
      ap (λ (es : List Entry). entry_step s (node.Inner es)) (entry_cuts s (v - 1) cuts c.0 c.2
      (every_child HasOneLevel c.0 evens) (below_levels v c.0 evens (ap level (sym c.1) ∙ e)))
      ∙ inner_entry s c.0 t c.1

  pub entry_cuts : (s : Scheme) (v : ℕ) (Ps : Cuts) (ts : List Tree) → CutsOf s Ps ts
      → Even ts → Levels v ts → entries s v Ps ≡ map (digests.entry s) ts
  entry_cuts s v no_more ts c even e = sym (ap (map (digests.entry s)) c)
  entry_cuts s v (first P Ps) ts c even e =
      let evens = subst Even c.2 even in
      let es = subst (Levels v) c.2 e in
      (λ i. entry_cut s v P c.0 c.3 evens.0 es.0 i ∷ entry_cuts s v Ps c.1 c.4 evens.1 es.1 i)
      ∙ sym (ap (map (digests.entry s)) c.2)

-- ---- the honest cut has each value in its range

missed_fits : (s : Scheme) (way : Key → Way) → IsSized s.of → (v : ℕ) (t : Tree) → IsFull t → HasFew t
    → IsSlim t → meets s.version way t ≡ false → FitsCut s.version v (honest_cut s way t)
missed_fits s way h v t full few slim f =
    let p = there_tree t full in
    let x : PrunedEntry = shown_of s t p.at in
    let is : honest_cut s way t ≡ Pruned x =
    honest_missed s way t f ∙ pruned_shown s t p.at p.is in
    let may = full_told s t full few in
    let fine : FitsShown s.version x = record {
      ordered = p.ordered;
      coordinates = p.fits;
      mask = subst (λ (n : ℕ). n < 2 ^ told s.version 64) (entry_mask s t) may.fits;
      counted = subst (λ (n : ℕ). told s.version 1 ≤ n) (entry_count s t) may.counted;
      few = subst (λ (n : ℕ). n ≤ told s.version count_limit) (entry_count s t) may.few;
      digest = ap length (digest_of_preimage s t) ∙ h.long (digests.preimage s t);
      bytes = digest_are_bytes s h t full slim;
    } in
    subst (FitsCut s.version v) (sym is) fine

abbrev Fit : Scheme → (Key → Way) → Tree → Type 0
Fit s way t = IsFull t → IsLayered s.version t → HasFew t → IsSlim t → every-Tree HasOneLevel t → (v : ℕ)
    → level t ≡ v → FitsCut s.version v (honest_cut s way t)

count_cuts : (s : Scheme) (way : Key → Way) (ts : List Tree)
    → number_of_cuts (honest_cuts s way ts) ≡ length ts
count_cuts s way [] = refl
count_cuts s way (t ∷ ts) = let rest = count_cuts s way ts in omega arith

all_fit : (s : Scheme) (way : Key → Way) (ts : List Tree) → AllByRecursion (Fit s way) ts
    → AllByRecursion IsFull ts → AllByRecursion (IsLayered s.version) ts → AllByRecursion HasFew ts
    → AllByRecursion IsSlim ts → Even ts → (v : ℕ) → Levels v ts → FitCuts s.version v (honest_cuts s way ts)
all_fit s way [] all full layered few slim even v e = tt
all_fit s way (t ∷ ts) all full layered few slim even v e = (
  all.0 full.0 layered.0 few.0 slim.0 even.0 v e.0,
  all_fit s way ts all.1 full.1 layered.1 few.1 slim.1 even.1 v e.1,
)

leaf_fits : (s : Scheme) (way : Key → Way) (rs : List Record) → IsFull (tree.Leaf rs)
    → IsLayered s.version (tree.Leaf rs) → IsSlim (tree.Leaf rs) → (v : ℕ) → level (tree.Leaf rs) ≡ v
    → meets s.version way (tree.Leaf rs) ≡ true
    → FitsCut s.version v (honest_cut s way (tree.Leaf rs))
leaf_fits s way rs full layered slim v e m =
    let own = here-Leaf IsFullNode rs full in
    let fine : FitsLeaf s.version v rs = record {
      at_leaf = sym e ∙ level-Leaf rs;
      some = own.0;
      few = here-Leaf IsSlimNode rs slim;
      each = All-from_recursion IsRecord rs own.1;
      layers = All-from_recursion (HasLayer s.version) rs (here-Leaf (IsLayeredNode s.version) rs layered);
    } in
    subst (FitsCut s.version v) (sym (honest_met s way (tree.Leaf rs) (node.Leaf rs) (tree.outs-Leaf rs) m)) fine

inner_fits : (s : Scheme) (way : Key → Way) (ts : List Tree) → AllByRecursion (Fit s way) ts
    → IsFull (tree.Inner ts) → IsLayered s.version (tree.Inner ts) → HasFew (tree.Inner ts)
    → IsSlim (tree.Inner ts)
    → every-Tree HasOneLevel (tree.Inner ts) → (v : ℕ) → level (tree.Inner ts) ≡ v
    → meets s.version way (tree.Inner ts) ≡ true
    → FitsCut s.version v (honest_cut s way (tree.Inner ts))
inner_fits s way ts all full layered few slim even v e m =
    let some = here-Inner IsFullNode ts full in
    let most = (here-Inner IsSlimNode ts slim).0 in
    let count = count_cuts s way ts in
    let up = level-Inner ts in
    let fine : FitsInner v (number_of_cuts (honest_cuts s way ts)) =
    record { above = omega arith; some = omega arith; few = omega arith } in
    let each : AllByRecursion HasFew ts =
    few_each ts (subst (λ (rs : List Record). length rs ≤ count_limit) (records-Inner ts) few) in
    let below = all_fit s way ts all (every_child IsFullNode ts full) (every_child (IsLayeredNode s.version) ts layered)
    each (every_child IsSlimNode ts slim) (every_child HasOneLevel ts even) (v - 1) (below_levels v ts even e) in
    subst (FitsCut s.version v) (sym (honest_met s way (tree.Inner ts) (node.Inner ts) (tree.outs-Inner ts) m))
    (fine, below)

honest_fits : (s : Scheme) (way : Key → Way) → IsSized s.of → (t : Tree) → Fit s way t
honest_fits s way h = tree_induction (Fit s way)
    (λ full layered few slim even v e. absurd (not_full_empty full))
    (λ rs full layered few slim even v e. elim (cases_Bool (meets s.version way (tree.Leaf rs))) [
      | inl m ↦ leaf_fits s way rs full layered slim v e m
      | inr f ↦ missed_fits s way h v (tree.Leaf rs) full few slim f
    ])
    (λ ts all full layered few slim even v e. elim (cases_Bool (meets s.version way (tree.Inner ts))) [
      | inl m ↦ inner_fits s way ts all full layered few slim even v e m
      | inr f ↦ missed_fits s way h v (tree.Inner ts) full few slim f
    ])

-- ---- the head

level_short : (count v : ℕ) → length (level_bytes count v) ≤ 1
level_short count v = elim (cases_Bool (eqb count 0)) [
  | inl t ↦ rw t (omega arith)
  | inr f ↦ rw f (omega arith)
]

radius_short : (k : Kind) (r : Option ℕ) → length (radius_bytes k r) ≤ 17
radius_short kind.W r = omega arith
radius_short (kind.Choice letter) r = omega arith
radius_short kind.K None = omega arith
radius_short kind.K (Some n) = omega (arith, wide_long n)

head_short : (s : Scheme) (a : Question) (t : Tree) (b : ℕ) → length (head_bytes (honest_head s a t b)) ≤ 40
head_short s a t b =
    let far = radius_bytes a.kind (radius_by a.around (records t)) in
    let last = level_bytes (length (records t)) (level t) in
    omega (
      arith,
      length-append (to_be_bytes w64 b) (to_be_bytes w64 (length (records t)) ++ (far ++ last)),
      length-append (to_be_bytes w64 (length (records t))) (far ++ last),
      length-append far last,
      word_long b,
      word_long (length (records t)),
      radius_short a.kind (radius_by a.around (records t)),
      level_short (length (records t)) (level t),
    )

-- ---- the root that the honest proof is for

pub root_same : (s : Scheme) (a : Question) (t : Tree) (b : ℕ) (P : Option Cut)
    → WellFormed t → FitsPart (honest_head s a t b) P → IfSome P (λ C. CutOf s C t)
    → digests.root_preimage_of s t b ≡ proof_preimage s.of (honest_head s a t b) P
root_same s a t b None well fit c = λ i. root_preimage s.version b (fit i) (digests.entry s t)
root_same s a t b (Some P) well fit c =
    let own : entry s (level t) P ≡ digests.entry s t = entry_cut s (level t) P t c well.one_level refl in
    (λ i. root_preimage s.version b (length (records t)) (record {
      level = entry_level s t i;
      rect = (sym (ap (λ (e : Entry). e.rect) own) ∙ entry-rect s (level t) P) i;
      mask = (sym (ap (λ (e : Entry). e.mask) own) ∙ entry-mask s (level t) P) i;
      count = (digests.entry s t).count;
      digest = (sym (ap (λ (e : Entry). e.digest) own)) i;
    })) ∙ sym (root_by s (honest_head s a t b) P refl)

-- ---- the honest proof

-- what is shown of the honest proof, whose cut this is
record OwnCut (s : Scheme) (t : Tree) (b : ℕ) (a : Question) (P : Option Cut) : Type 0 where
  same : honest_part s a t ≡ P
  tight : IsTight a (honest_head s a t b) P
  cut : IfSome P (λ C. CutOf s C t)
  opened : filter (λ (r : Record). opens_at (ways_of a t) (record_key r)) (records t)
      ≡ filter (λ (r : Record). opens_at (ways_of a t) (record_key r)) (opened_records P)
  short : length (proof_for s a t b) < 2 ^ 28
  -- where the records are of the scheme's version
  fits : IsLayered s.version t → FitsPart (honest_head s a t b) P

filled_own : (s : Scheme) → IsSized s.of → (t : Tree) (b : ℕ) (a : Question) → IsLawful a → WellFormed t
    → IsFull t → OwnCut s t b a (Some (honest_cut s (ways_of a t) t))
filled_own s h t b a law well full =
    let way = ways_of a t in
    let head = honest_head s a t b in
    let P = honest_cut s way t in
    let good = honest_good s way t full in
    let some = some_record t full in
    let same = some_part s a t some in
    let few = well.few in
    let front = head_short s a t b in
    let behind = cut_short s h.long P t full good.cut in
    let size : length (proof_for s a t b) ≡ length (head_bytes head) + length (cut_bytes s.version P) =
    ap length (ap (λ (o : Option Cut). head_bytes head ++ part_bytes s.version o) same)
    ∙ length-append (head_bytes head) (cut_bytes s.version P) in
    let all = sym (kept s way (narrow_misses way (law.narrow (radius_by a.around (records t)))) P t full good.cut
    good.tight) in
    record {
      same = same;
      tight = record {
        parts = good.tight;
        radius = same_radius a law (records t) (cut.records P) all;
        counted = counted_cut s P t good.cut;
      };
      cut = good.cut;
      opened = all;
      short = omega arith;
      fits = λ layered.
          (some, honest_fits s way h t full layered few (slim_tree t well) well.one_level (level t) refl);
    }

empty_own : (s : Scheme) (t : Tree) (b : ℕ) (a : Question) → IsLawful a → t ≡ tree.Empty → OwnCut s t b a None
empty_own s t b a law e =
    let head = honest_head s a t b in
    let none : records t ≡ [] = ap records e ∙ records-Empty in
    let zero : length (records t) ≡ 0 = ap length none in
    let same = no_part s a t zero in
    let front = head_short s a t b in
    let size : length (proof_for s a t b) ≡ length (head_bytes head) + 0 =
    ap length (ap (λ (o : Option Cut). head_bytes head ++ part_bytes s.version o) same)
    ∙ length-append (head_bytes head) [] in
    record {
      same = same;
      tight = record { parts = tt; radius = ap (radius_by a.around) none; counted = tt };
      cut = tt;
      opened = ap (filter (λ (r : Record). opens_at (ways_of a t) (record_key r))) none;
      short = omega arith;
      fits = λ layered. zero;
    }

own_part : (s : Scheme) → IsSized s.of → (t : Tree) (b : ℕ) (a : Question) → IsLawful a → WellFormed t
    → (P : Option Cut) × OwnCut s t b a P
own_part s h t b a law well = elim (empty_or_full t well) [
  | inl e ↦ (None, empty_own s t b a law e)
  | inr full ↦ (Some (honest_cut s (ways_of a t) t), filled_own s h t b a law well full)
]

own_cut : (s : Scheme) → IsSized s.of → (t : Tree) (b : ℕ) (a : Question) → IsLawful a → WellFormed t
    → OwnCut s t b a (honest_part s a t)
own_cut s h t b a law well =
    let p = own_part s h t b a law well in
    subst (OwnCut s t b a) (sym p.1.same) p.1

-- the honest proof of every map is short, also of one of another version
pub honest_short : (s : Scheme) → IsSized s.of → (a : Question) → IsLawful a → (t : Tree) (b : ℕ) → WellFormed t
    → length (proof_for s a t b) < 2 ^ 28
honest_short s h a law t b well = (own_cut s h t b a law well).short

-- the level of a tree without records
empty_level : (t : Tree) → WellFormed t → length (records t) ≡ 0 → level t ≡ 0
empty_level t well none = elim (empty_or_full t well) [
  | inl e ↦ ap level e ∙ level-Empty
  | inr full ↦ let some = some_record t full in absurd (omega arith)
]

-- of a map of the scheme's version, where there is one
pub honest_stands : (s : Scheme) → IsSized s.of → (a : Question) → IsLawful a → (t : Tree)
    (b : ℕ) → MayCome a s.version → WellFormed t → HasLayers s.version t → b < 2 ^ 64 → IsHonestProof s t b a
honest_stands s h a law t b may well layers low =
    let p = own_cut s h t b a law well in
    let part = p.fits (layered_tree s.version t layers) in
    let few = p.short in
    let head : FitsProofHead (honest_head s a t b) = record {
      version = fits_version a.kind a.two_only s.version law.two_only (either_comes a s.version may);
      batch = low;
      count = well.few;
      radius = radius_fits a (records t) law well.each;
      level = well.shallow;
      empty = empty_level t well;
    } in
    record {
      spelled = record { head = head; part = part; whole = refl; short = omega arith };
      tight = p.tight;
      cut = p.cut;
      held = ap s.of (sym (root_same s a t b (honest_part s a t) well part p.cut));
      short = p.short;
    }

-- the honest proof shows its head and cut
honest_shows : (s : Scheme) → IsSized s.of → (t : Tree) (b : ℕ) (a : Question) → IsLawful a → MayCome a s.version
    → WellFormed t → HasLayers s.version t → b < 2 ^ 64
    → ShowsCut s.of (root s t b) a (proof_for s a t b) (honest_said s a t b)
honest_shows s h t b a law may well layers low =
    let p = honest_stands s h a law t b may well layers low in
    record { spelled = p.spelled; kind = refl; version = may; tight = p.tight; held = p.held }

pub accepts_own : (s : Scheme) → IsSized s.of → (a : Question) → IsLawful a → AcceptsHonestProof s a
accepts_own s h a law = λ t b may well layers low.
    checked_from s.of (root s t b) a (proof_for s a t b) (honest_said s a t b) law
    (honest_shows s h t b a law may well layers low)

-- ---- of queries

-- the honest proof has the answer of a scan
pub honest_scan : (s : Scheme) → IsSized s.of → (t : Tree) (q : Query) → IsQuery q → WellFormed t
    → scan (records t) q ≡ scan (opened_records (honest_part s (question q) t)) q
honest_scan s h t q is well =
    let p = own_cut s h t 0 (question q) (is_lawful q is) well in
    same_answer q (records t) (opened_records (honest_part s (question q) t)) is p.opened

pub accepts_honest : (s : Scheme) → IsSized s.of → (q : Query) → IsQuery q → AcceptsHonest s q
accepts_honest s h q is = λ t b may well layers low.
    verdict_from s.of (root s t b) q (proof s t b q) (scan (records t) q) is (record {
      said = honest_said s (question q) t b;
      shows = honest_shows s h t b (question q) (is_lawful q is) may well layers low;
      scanned = honest_scan s h t q is well;
    })
