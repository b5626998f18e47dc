-- A tight cut of a tree is the honest one.
use Rattle.std.proofs.Common.{◌≡◌, true, false, List, sym, ap, ◌∙◌}
use Rattle.std.specs.Prelude.{option_map}
use Rattle.mr_record.specs.declared.record.Record.{Record}
use Rattle.mr_tree.specs.Digest.{Scheme}
use Rattle.mr_tree.specs.declared.tree.Tree.{Tree}
use Rattle.mr_tree.specs.declared.tree.Tree.TheVariants as tree
use Rattle.mr_tree.specs.declared.tree.Tree.TheOpen as node
use Rattle.mr_tree.specs.declared.tree.Tree.TheViews.{out-Tree}
use Rattle.mr_query.specs.declared.key.Key.{Key}
use Rattle.mr_proof.specs.declared.pruned_entry.PrunedEntry.{PrunedEntry}
use Rattle.mr_proof.specs.Cut.{Cut, Cuts, Pruned, Leaf, Inner, no_more, first, CutOf, CutsOf}
use Rattle.mr_proof.specs.declared.way.Way.{Way}
use Rattle.mr_proof.specs.Tight.{key_at, opens_seen, opens_at, IsTightCut, AreTightCuts}
use Rattle.mr_proof.specs.Honest.{honest_cut}
use Rattle.mr_proof.proofs.HonestCut.{meets, key_of_cut, honest_cuts, honest_missed, pruned_shown, honest_met}

pruned_is : (s : Scheme) (way : Key → Way) (x : PrunedEntry) (t : Tree) → CutOf s (Pruned x) t
    → opens_at way (key_at s.version x.mask x.rect) ≡ false → Pruned x ≡ honest_cut s way t
pruned_is s way x t c missed =
    let seen : opens_at way (key_at s.version x.mask x.rect) ≡ meets s.version way t =
    λ i. opens_seen way (option_map (key_at s.version (c.1 i)) (c.0 i)) in
    let miss : meets s.version way t ≡ false = sym seen ∙ missed in
    (λ i. Pruned (record { rect = x.rect; mask = c.1 i; count = c.2 i; digest = c.3 i }))
    ∙ sym (pruned_shown s t x.rect (sym c.0)) ∙ sym (honest_missed s way t miss)

leaf_is : (s : Scheme) (way : Key → Way) (rs : List Record) (t : Tree) → t ≡ tree.Leaf rs
    → meets s.version way t ≡ true → Leaf rs ≡ honest_cut s way t
leaf_is s way rs t e met = sym (honest_met s way t (node.Leaf rs) (ap out-Tree e ∙ tree.outs-Leaf rs) met)

inner_is : (s : Scheme) (way : Key → Way) (cuts : Cuts) (ts : List Tree) (t : Tree)
    → t ≡ tree.Inner ts → meets s.version way t ≡ true → cuts ≡ honest_cuts s way ts
    → Inner cuts ≡ honest_cut s way t
inner_is s way cuts ts t e met same =
    ap Inner same ∙ sym (honest_met s way t (node.Inner ts) (ap out-Tree e ∙ tree.outs-Inner ts) met)

mutual
  pub is_honest : (s : Scheme) (way : Key → Way) (P : Cut) (t : Tree) → CutOf s P t
      → IsTightCut s.version way P → P ≡ honest_cut s way t
  is_honest s way (Pruned x) t c tight = pruned_is s way x t c tight
  is_honest s way (Leaf rs) t c tight =
      leaf_is s way rs t c (sym (ap (opens_seen way) (key_of_cut s (Leaf rs) t c)) ∙ tight)
  is_honest s way (Inner cuts) t c tight =
      inner_is s way cuts c.0 t c.1 (sym (ap (opens_seen way) (key_of_cut s (Inner cuts) t c)) ∙ tight.0)
      (are_honest s way cuts c.0 c.2 tight.1)

  are_honest : (s : Scheme) (way : Key → Way) (Ps : Cuts) (ts : List Tree) → CutsOf s Ps ts
      → AreTightCuts s.version way Ps → Ps ≡ honest_cuts s way ts
  are_honest s way no_more ts c tight = sym (ap (honest_cuts s way) c)
  are_honest s way (first P Ps) ts c tight =
      (λ i. first (is_honest s way P c.0 c.3 tight.0 i) (are_honest s way Ps c.1 c.4 tight.1 i))
      ∙ sym (ap (honest_cuts s way) c.2)
