-- The layers of a tree of which each leaf has those of a version.
use Rattle.std.proofs.Common.{ℕ, List, [], ◌∷◌, ◌++◌, map, sym, subst, ◌∙◌}
use Rattle.std.specs.Prelude.{⊤, All}
use Rattle.std.specs.List.{flat_map, AllByRecursion}
use Rattle.std.proofs.lemmas.List.Elements.{recursion_from_All, All-from_recursion}
use Rattle.mr_record.specs.Record.{HasLayer}
use Rattle.mr_record.specs.declared.record.Record.{Record}
use Rattle.mr_record.specs.declared.version.Version.{Version}
use Rattle.mr_tree.specs.Digest.{Scheme, by}
use Rattle.mr_tree.specs.Nodes.{subtrees}
use Rattle.mr_tree.specs.Snapshot.{tree_over, tree_of, trees, IsNode, IsSnapshot}
use Rattle.mr_tree.specs.Tree.{records}
use Rattle.mr_tree.specs.WellFormed.{HasLayers}
use Rattle.mr_tree.specs.declared.nodes.Top.{Top}
use Rattle.mr_tree.specs.declared.stored.Stored.{Stored}
use Rattle.mr_tree.specs.declared.stored.Stored.TheVariants.{Records, Children}
use Rattle.mr_tree.specs.declared.tree.Tree.{Tree}
use Rattle.mr_tree.specs.declared.tree.Tree.TheVariants as tree
use Rattle.mr_tree.specs.declared.tree.Tree.TheOpen.{Tree-F, Leaf}
use Rattle.mr_tree.specs.declared.tree.Tree.TheViews.{out-Tree}
use Rattle.mr_tree.proofs.Equations.{records-Empty, records-Leaf, records-Inner}
use Rattle.mr_tree.proofs.Induction.{tree_induction}
use Rattle.mr_tree.proofs.Subtrees.{subtrees-Leaf, subtrees-Inner}

front : {X : Type 0} (Q : X → Type 0) (xs ys : List X) → AllByRecursion Q (xs ++ ys) → AllByRecursion Q xs
front Q [] ys all = tt
front Q (x ∷ xs) ys all = (all.0, front Q xs ys all.1)

behind : {X : Type 0} (Q : X → Type 0) (xs ys : List X) → AllByRecursion Q (xs ++ ys) → AllByRecursion Q ys
behind Q [] ys all = all
behind Q (x ∷ xs) ys all = behind Q xs ys all.1

joined : {X : Type 0} (Q : X → Type 0) (xs ys : List X) → AllByRecursion Q xs → AllByRecursion Q ys →
    AllByRecursion Q (xs ++ ys)
joined Q [] ys first second = second
joined Q (x ∷ xs) ys first second = (first.0, joined Q xs ys first.1 second)

module _ (v : Version) where
  -- the records of a leaf have layers of the version
  abbrev Layered : Tree-F Tree → Type 0
  Layered (Leaf rs) = All (HasLayer v) rs
  Layered _ = ⊤

  abbrev IsLayered : Tree → Type 0
  IsLayered t = Layered (out-Tree t)

  -- then those of a tree have, if each leaf below it is so
  abbrev Reached : Tree → Type 0
  Reached t = AllByRecursion IsLayered (subtrees t) → AllByRecursion (HasLayer v) (records t)

  over_children : (ts : List Tree) → AllByRecursion Reached ts → AllByRecursion IsLayered (flat_map subtrees ts) →
      AllByRecursion (HasLayer v) (flat_map (λ list. list) (map records ts))
  over_children [] each below = tt
  over_children (t ∷ ts) each below =
      joined (HasLayer v) (records t) (flat_map (λ list. list) (map records ts))
      (each.0 (front IsLayered (subtrees t) (flat_map subtrees ts) below))
      (over_children ts each.1 (behind IsLayered (subtrees t) (flat_map subtrees ts) below))

  of_empty : Reached tree.Empty
  of_empty below = subst (AllByRecursion (HasLayer v)) (sym records-Empty) tt

  of_leaf : (rs : List Record) → Reached (tree.Leaf rs)
  of_leaf rs below =
      let here = subst (AllByRecursion IsLayered) (subtrees-Leaf rs) below in
      subst (AllByRecursion (HasLayer v)) (sym (records-Leaf rs))
      (recursion_from_All (HasLayer v) rs (subst Layered (tree.outs-Leaf rs) here.0))

  of_inner : (ts : List Tree) → AllByRecursion Reached ts → Reached (tree.Inner ts)
  of_inner ts each below =
      subst (AllByRecursion (HasLayer v)) (sym (records-Inner ts))
      (over_children ts each (front IsLayered (flat_map subtrees ts) (tree.Inner ts ∷ [])
      (subst (AllByRecursion IsLayered) (subtrees-Inner ts) below)))

  reached : (t : Tree) → Reached t
  reached = tree_induction Reached of_empty of_leaf of_inner

over_nodes : (s : Scheme) (ts : List Tree) (ns : List Stored) → AllByRecursion (IsNode s ts) ns →
    AllByRecursion (IsLayered s.version) (map (tree_over ts) ns)
over_nodes s ts [] each = tt
over_nodes s ts (Records rs ∷ ns) each =
    (subst (Layered s.version) (sym (tree.outs-Leaf rs)) each.0.told.layers, over_nodes s ts ns each.1)
over_nodes s ts (Children cs ∷ ns) each =
    (subst (Layered s.version) (sym (tree.outs-Inner _)) tt, over_nodes s ts ns each.1)

-- the layers of a snapshot's tree are those of its version
pub layers_in : (hash : List ℕ → List ℕ) (ns : List Stored) (top : Top) → IsSnapshot hash ns top →
    HasLayers top.version (tree_of ns top)
layers_in hash ns top snapshot =
    let s = by top.version hash in
    let each = recursion_from_All (IsNode s (trees ns)) ns snapshot.linked.each in
    All-from_recursion (HasLayer top.version) (records (tree_of ns top))
    (reached top.version (tree_of ns top) (subst (AllByRecursion (IsLayered top.version))
    (snapshot.linked.over ∙ snapshot.whole) (over_nodes s (trees ns) ns each)))
