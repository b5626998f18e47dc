-- The honest cut at each kind of node; and that it is a tight cut of the tree.
use Rattle.std.proofs.Common.{◌≡◌, ℕ, ◌≤◌, Bool, true, false, List, [], ◌∷◌, map, length, refl, sym, ap, subst, ◌∙◌, inl, inr, arith}
use Rattle.std.specs.Prelude.{Option, Some, None, option_map, if◌then◌else◌, sum}
use Rattle.std.specs.List.{AllByRecursion}
use Rattle.std.proofs.lemmas.Bool.{cases_Bool, eq-eqb, ne_eqb}
use Rattle.mr_geom.specs.Rectangle.{Rectangle}
use Rattle.mr_record.specs.declared.record.Record.{Record}
use Rattle.mr_record.specs.declared.version.Version.{Version}
use Rattle.mr_record.specs.Version.{told}
use Rattle.mr_tree.specs.Tree as trees
use Rattle.mr_tree.specs.Digest.{Scheme, entry, entry_step, digest}
use Rattle.mr_tree.specs.declared.entry.Entry.{Entry}
use Rattle.mr_tree.specs.declared.tree.Tree.{Tree}
use Rattle.mr_tree.specs.declared.tree.Tree.TheVariants as tree
use Rattle.mr_tree.specs.declared.tree.Tree.TheOpen as node
use Rattle.mr_tree.specs.declared.tree.Tree.TheOpen.{Tree-F}
use Rattle.mr_tree.specs.declared.tree.Tree.TheViews.{out-Tree}
use Rattle.mr_tree.specs.declared.tree.Tree.TheFolds.{fold_out-Tree, map-Tree}
use Rattle.mr_tree.proofs.Equations.{entry_rect, entry_mask, entry_count, rect-Leaf}
use Rattle.mr_tree.proofs.Folds.{fold-Leaf, fold-Inner}
use Rattle.mr_tree.proofs.Told.{count_told}
use Rattle.mr_tree.proofs.Induction.{tree_induction, every_child}
use Rattle.mr_tree.proofs.Equations.{rect-Inner}
use Rattle.mr_geom.specs.Rectangle.{union_of}
use Rattle.mr_proof.specs.declared.pruned_entry.PrunedEntry.{PrunedEntry}
use Rattle.mr_query.specs.declared.key.Key.{Key}
use Rattle.mr_proof.specs.Cut.{Cut, Cuts, Pruned, Leaf, Inner, no_more, first, shown_with, pruned_if, pruned_cut, cuts_of, rect, rects, mask, masks, count, counts, CutOf, CutsOf}
use Rattle.mr_proof.specs.declared.way.Way.{Way}
use Rattle.mr_proof.specs.Tight.{key_at, key_of, opens_seen, Question, IsTightCut, AreTightCuts}
use Rattle.mr_proof.specs.Honest.{Part, entry_over, opened_cut, opened_if_met, part_step, part, ways_of, honest_cut, honest_part}
use Rattle.mr_proof.proofs.Full.{IsFull, IsFullNode, there_tree, not_full_empty}

-- what is seen of a tree in a version
abbrev pub key_in : Version → Tree → Option Key
key_in v t = option_map (key_at v (trees.mask v t)) (trees.rect t)

-- whether the tree is to be opened
abbrev pub meets : Version → (Key → Way) → Tree → Bool
meets v way t = opens_seen way (key_in v t)

-- ---- a cut of a tree has the tree's rectangle, mask and count

mutual
  pub rect_of_cut : (s : Scheme) (P : Cut) (t : Tree) → CutOf s P t → rect P ≡ trees.rect t
  rect_of_cut s (Pruned x) t c = c.0
  rect_of_cut s (Leaf rs) t c = sym (ap trees.rect c ∙ rect-Leaf rs)
  rect_of_cut s (Inner cuts) t c =
      ap union_of (rects_of_cuts s cuts c.0 c.2) ∙ sym (ap trees.rect c.1 ∙ rect-Inner c.0)

  rects_of_cuts : (s : Scheme) (Ps : Cuts) (ts : List Tree) → CutsOf s Ps ts
      → rects Ps ≡ map trees.rect ts
  rects_of_cuts s no_more ts c = sym (ap (map trees.rect) c)
  rects_of_cuts s (first P Ps) ts c =
      (λ i. rect_of_cut s P c.0 c.3 i ∷ rects_of_cuts s Ps c.1 c.4 i) ∙ sym (ap (map trees.rect) c.2)

mutual
  pub mask_of_cut : (s : Scheme) (P : Cut) (t : Tree) → CutOf s P t → mask s.version P ≡ trees.mask s.version t
  mask_of_cut s (Pruned x) t c = c.1
  mask_of_cut s (Leaf rs) t c =
      let v = s.version in
      sym (ap (trees.mask v) c ∙ fold-Leaf ℕ (trees.mask_step v) rs)
  mask_of_cut s (Inner cuts) t c =
      let v = s.version in
      ap trees.mask_of (masks_of_cuts s cuts c.0 c.2)
      ∙ sym (ap (trees.mask v) c.1 ∙ fold-Inner ℕ (trees.mask_step v) c.0)

  masks_of_cuts : (s : Scheme) (Ps : Cuts) (ts : List Tree) → CutsOf s Ps ts
      → masks s.version Ps ≡ map (trees.mask s.version) ts
  masks_of_cuts s no_more ts c = sym (ap (map (trees.mask s.version)) c)
  masks_of_cuts s (first P Ps) ts c =
      (λ i. mask_of_cut s P c.0 c.3 i ∷ masks_of_cuts s Ps c.1 c.4 i)
      ∙ sym (ap (map (trees.mask s.version)) c.2)

mutual
  pub count_of_cut : (s : Scheme) (P : Cut) (t : Tree) → CutOf s P t
      → count s.version P ≡ trees.count s.version t
  count_of_cut s (Pruned x) t c = c.2
  count_of_cut s (Leaf rs) t c =
      let v = s.version in
      sym (ap (trees.count v) c ∙ fold-Leaf ℕ (trees.count_step v) rs)
  count_of_cut s (Inner cuts) t c =
      let v = s.version in
      ap sum (counts_of_cuts s cuts c.0 c.2)
      ∙ sym (ap (trees.count v) c.1 ∙ fold-Inner ℕ (trees.count_step v) c.0)

  counts_of_cuts : (s : Scheme) (Ps : Cuts) (ts : List Tree) → CutsOf s Ps ts
      → counts s.version Ps ≡ map (trees.count s.version) ts
  counts_of_cuts s no_more ts c = sym (ap (map (trees.count s.version)) c)
  counts_of_cuts s (first P Ps) ts c =
      (λ i. count_of_cut s P c.0 c.3 i ∷ counts_of_cuts s Ps c.1 c.4 i)
      ∙ sym (ap (map (trees.count s.version)) c.2)

-- and so it counts the tree's records
pub counted_cut : (s : Scheme) (P : Cut) (t : Tree) → CutOf s P t
    → count s.version P ≡ told s.version (length (trees.records t))
counted_cut s P t c = count_of_cut s P t c ∙ count_told s.version t

-- and of it the same is seen
pub key_of_cut : (s : Scheme) (P : Cut) (t : Tree) → CutOf s P t → key_of s.version P ≡ key_in s.version t
key_of_cut s P t c = λ i. option_map (key_at s.version (mask_of_cut s P t c i)) (rect_of_cut s P t c i)

-- ---- the honest cut, opened or pruned

part_out : (s : Scheme) (way : Key → Way) (t : Tree)
    → part s way t ≡ part_step s way (map-Tree Tree Part (part s way) (out-Tree t))
part_out s way t = fold_out-Tree Part (part_step s way) t

entries_same : (s : Scheme) (way : Key → Way) (ts : List Tree)
    → AllByRecursion (λ t. (part s way t).entry ≡ entry s t) ts
    → map (λ (p : Part). p.entry) (map (part s way) ts) ≡ map (entry s) ts
entries_same s way [] all = refl
entries_same s way (t ∷ ts) all = λ i. all.0 i ∷ entries_same s way ts all.1 i

entry_out : (s : Scheme) (way : Key → Way) (t : Tree) (x : Tree-F Tree) → out-Tree t ≡ x
    → (part s way t).entry ≡ entry_over s (map-Tree Tree Part (part s way) x)
entry_out s way t x e =
    ap (λ (p : Part). p.entry) (part_out s way t)
    ∙ ap (λ (y : Tree-F Tree). entry_over s (map-Tree Tree Part (part s way) y)) e

pub known_out : (s : Scheme) (t : Tree) (x : Tree-F Tree) → out-Tree t ≡ x
    → entry s t ≡ entry_step s (map-Tree Tree Entry (entry s) x)
known_out s t x e =
    fold_out-Tree Entry (entry_step s) t
    ∙ ap (λ (y : Tree-F Tree). entry_step s (map-Tree Tree Entry (entry s) y)) e

pub entry_same : (s : Scheme) (way : Key → Way) (t : Tree)
    → (part s way t).entry ≡ entry s t
entry_same s way = tree_induction (λ t. (part s way t).entry ≡ entry s t)
    (entry_out s way tree.Empty node.Empty tree.outs-Empty
    ∙ sym (known_out s tree.Empty node.Empty tree.outs-Empty))
    (λ rs. entry_out s way (tree.Leaf rs) (node.Leaf rs) (tree.outs-Leaf rs)
    ∙ sym (known_out s (tree.Leaf rs) (node.Leaf rs) (tree.outs-Leaf rs)))
    (λ ts all. entry_out s way (tree.Inner ts) (node.Inner ts) (tree.outs-Inner ts)
    ∙ ap (λ (es : List Entry). entry_step s (node.Inner es)) (entries_same s way ts all)
    ∙ sym (known_out s (tree.Inner ts) (node.Inner ts) (tree.outs-Inner ts)))

-- the tree opened, over the honest cuts of its children
abbrev pub open_at : Scheme → (Key → Way) → Tree-F Tree → Cut
open_at s way x = opened_cut (map-Tree Tree Part (part s way) x)

-- the honest cuts of some trees
abbrev pub honest_cuts : Scheme → (Key → Way) → List Tree → Cuts
honest_cuts s way ts = cuts_of (map (λ (p : Part). p.cut) (map (part s way) ts))

honest_is : (s : Scheme) (way : Key → Way) (t : Tree) (x : Tree-F Tree) → out-Tree t ≡ x
    → honest_cut s way t
    ≡ (if meets s.version way t then open_at s way x else pruned_cut (entry s t))
honest_is s way t x e =
    let known : entry_over s (map-Tree Tree Part (part s way) (out-Tree t)) ≡ entry s t =
    sym (entry_out s way t (out-Tree t) refl) ∙ entry_same s way t in
    ap (λ (p : Part). p.cut) (part_out s way t)
    ∙ ap (opened_if_met s.version way (open_at s way (out-Tree t))) known
    ∙ (λ i. if opens_seen way (option_map (key_at s.version (entry_mask s t i)) (entry_rect s t i))
    then open_at s way (e i) else pruned_cut (entry s t))

pub honest_missed : (s : Scheme) (way : Key → Way) (t : Tree) → meets s.version way t ≡ false
    → honest_cut s way t ≡ pruned_cut (entry s t)
honest_missed s way t f = honest_is s way t (out-Tree t) refl ∙ rw f refl

-- what is shown of a tree with this rectangle
abbrev pub shown_of : Scheme → Tree → Rectangle → PrunedEntry
shown_of s t r = record {
  rect = r;
  mask = trees.mask s.version t;
  count = trees.count s.version t;
  digest = digest s t;
}

-- the tree, pruned
pub pruned_shown : (s : Scheme) (t : Tree) (r : Rectangle) → trees.rect t ≡ Some r
    → pruned_cut (entry s t) ≡ Pruned (shown_of s t r)
pruned_shown s t r e =
    ap (λ (o : Option Rectangle). pruned_if (option_map (shown_with (entry s t)) o)) (entry_rect s t ∙ e)
    ∙ (λ i. Pruned (record {
      rect = r;
      mask = entry_mask s t i;
      count = entry_count s t i;
      digest = digest s t;
    }))

pub honest_met : (s : Scheme) (way : Key → Way) (t : Tree) (x : Tree-F Tree) → out-Tree t ≡ x
    → meets s.version way t ≡ true → honest_cut s way t ≡ open_at s way x
honest_met s way t x e m = honest_is s way t x e ∙ rw m refl

-- ---- it is a tight cut

pub record IsGoodCut (s : Scheme) (way : Key → Way) (t : Tree) (P : Cut) : Type 0 where
  pub cut : CutOf s P t
  pub tight : IsTightCut s.version way P

record AreGoodCuts (s : Scheme) (way : Key → Way) (ts : List Tree) (Ps : Cuts) : Type 0 where
  cuts : CutsOf s Ps ts
  tight : AreTightCuts s.version way Ps

missed_good : (s : Scheme) (way : Key → Way) (t : Tree) → IsFull t → meets s.version way t ≡ false
    → IsGoodCut s way t (honest_cut s way t)
missed_good s way t full f =
    let p = there_tree t full in
    let is : honest_cut s way t ≡ Pruned (shown_of s t p.at) =
    honest_missed s way t f ∙ pruned_shown s t p.at p.is in
    subst (IsGoodCut s way t) (sym is) (record {
      cut = (sym p.is, refl, refl, refl);
      tight = sym (ap (λ (o : Option Rectangle). opens_seen way (option_map
          (key_at s.version (trees.mask s.version t)) o)) p.is) ∙ f;
    })

leaf_good : (s : Scheme) (way : Key → Way) (rs : List Record) → meets s.version way (tree.Leaf rs) ≡ true
    → IsGoodCut s way (tree.Leaf rs) (honest_cut s way (tree.Leaf rs))
leaf_good s way rs m =
    subst (IsGoodCut s way (tree.Leaf rs))
    (sym (honest_met s way (tree.Leaf rs) (node.Leaf rs) (tree.outs-Leaf rs) m))
    (record {
      cut = refl;
      tight = ap (opens_seen way) (key_of_cut s (Leaf rs) (tree.Leaf rs) refl) ∙ m;
    })

abbrev IsGood : Scheme → (Key → Way) → Tree → Type 0
IsGood s way t = IsFull t → IsGoodCut s way t (honest_cut s way t)

goods : (s : Scheme) (way : Key → Way) (ts : List Tree) → AllByRecursion (IsGood s way) ts
    → AllByRecursion IsFull ts → AreGoodCuts s way ts (honest_cuts s way ts)
goods s way [] all full = record { cuts = refl; tight = tt }
goods s way (t ∷ ts) all full =
    let one = all.0 full.0 in
    let rest = goods s way ts all.1 full.1 in
    record { cuts = (t, ts, refl, one.cut, rest.cuts); tight = (one.tight, rest.tight) }

inner_good : (s : Scheme) (way : Key → Way) (ts : List Tree)
    → meets s.version way (tree.Inner ts) ≡ true → AreGoodCuts s way ts (honest_cuts s way ts)
    → IsGoodCut s way (tree.Inner ts) (honest_cut s way (tree.Inner ts))
inner_good s way ts m all =
    let Ps = honest_cuts s way ts in
    let c : CutOf s (Inner Ps) (tree.Inner ts) = (ts, refl, all.cuts) in
    let whole = key_of_cut s (Inner Ps) (tree.Inner ts) c in
    subst (IsGoodCut s way (tree.Inner ts))
    (sym (honest_met s way (tree.Inner ts) (node.Inner ts) (tree.outs-Inner ts) m))
    (record {
      cut = c;
      tight = (ap (opens_seen way) whole ∙ m, all.tight);
    })

pub honest_good : (s : Scheme) (way : Key → Way) (t : Tree) → IsFull t
    → IsGoodCut s way t (honest_cut s way t)
honest_good s way = tree_induction (IsGood s way)
    (λ full. absurd (not_full_empty full))
    (λ rs full. elim (cases_Bool (meets s.version way (tree.Leaf rs))) [
      | inl m ↦ leaf_good s way rs m
      | inr f ↦ missed_good s way (tree.Leaf rs) full f
    ])
    (λ ts all full. elim (cases_Bool (meets s.version way (tree.Inner ts))) [
      | inl m ↦ inner_good s way ts m (goods s way ts all (every_child IsFullNode ts full))
      | inr f ↦ missed_good s way (tree.Inner ts) full f
    ])

-- ---- the cut of the honest proof, where there is one

pub some_part : (s : Scheme) (a : Question) (t : Tree) → 1 ≤ length (trees.records t)
    → honest_part s a t ≡ Some (honest_cut s (ways_of a t) t)
some_part s a t some = rw (ne_eqb (length (trees.records t)) 0 (λ z. omega arith)) refl

pub no_part : (s : Scheme) (a : Question) (t : Tree) → length (trees.records t) ≡ 0 → honest_part s a t ≡ None
no_part s a t none = rw (eq-eqb (length (trees.records t)) 0 none) refl
