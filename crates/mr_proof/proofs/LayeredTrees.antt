-- Trees whose records have the layers of a version, and what a version tells of a tree with
-- records.
use Rattle.std.proofs.Common.{◌≤◌, List, [], ◌∷◌, length, length-append, subst, arith}
use Rattle.std.specs.Prelude.{⊤}
use Rattle.std.specs.List.{AllByRecursion}
use Rattle.std.proofs.lemmas.List.Elements.{recursion_from_All, All-from_recursion}
use Rattle.mr_record.specs.Record.{IsRecord, HasLayer}
use Rattle.mr_record.specs.declared.record.Record.{Record}
use Rattle.mr_record.specs.declared.version.Version.{Version}
use Rattle.mr_record.specs.declared.version.Version.TheVariants.{Two}
use Rattle.mr_tree.specs.Limits.{count_limit}
use Rattle.mr_tree.specs.Tree.{records}
use Rattle.mr_tree.specs.Digest.{Scheme, entry}
use Rattle.mr_tree.specs.View.{MayTell}
use Rattle.mr_tree.specs.WellFormed.{HasLayers}
use Rattle.mr_tree.specs.declared.tree.Tree.{Tree}
use Rattle.mr_tree.specs.declared.tree.Tree.TheOpen.{Tree-F, Empty, Leaf, Inner}
use Rattle.mr_tree.specs.declared.tree.Tree.TheFolds.{every-Tree}
use Rattle.mr_tree.proofs.Equations.{records-Inner, records-Leaf}
use Rattle.mr_tree.proofs.Induction.{tree_induction, every-Empty, every-Leaf, every-Inner}
use Rattle.mr_tree.proofs.Told.{may_tell}
use Rattle.mr_proof.proofs.Full.{IsFull, full_records, some_record, flat, first_half, second_half}

abbrev pub IsLayeredNode : Version → Tree-F Tree → Type 0
IsLayeredNode v Empty = ⊤
IsLayeredNode v (Leaf rs) = AllByRecursion (HasLayer v) rs
IsLayeredNode v (Inner ts) = ⊤

abbrev pub IsLayered : Version → Tree → Type 0
IsLayered v = every-Tree (IsLayeredNode v)

module _ (v : Version) where
  abbrev HaveLayers : List Record → Type 0
  HaveLayers rs = AllByRecursion (HasLayer v) rs

  children_layered : (ts : List Tree)
      → AllByRecursion (λ t. HaveLayers (records t) → IsLayered v t) ts
      → HaveLayers (flat ts) → AllByRecursion (IsLayered v) ts
  children_layered [] below layers = tt
  children_layered (t ∷ ts) below layers = (
    below.0 (first_half (HasLayer v) (records t) (flat ts) layers),
    children_layered ts below.1 (second_half (HasLayer v) (records t) (flat ts) layers),
  )

  layers_below : (t : Tree) → HaveLayers (records t) → IsLayered v t
  layers_below = tree_induction (λ t. HaveLayers (records t) → IsLayered v t)
      (λ layers. every-Empty (IsLayeredNode v) tt)
      (λ rs layers. every-Leaf (IsLayeredNode v) rs (subst HaveLayers (records-Leaf rs) layers))
      (λ ts below layers. every-Inner (IsLayeredNode v) ts
      (children_layered ts below (subst HaveLayers (records-Inner ts) layers)) tt)

  pub layered_tree : (t : Tree) → HasLayers v t → IsLayered v t
  layered_tree t layers = layers_below t (recursion_from_All (HasLayer v) (records t) layers)

-- ---- what is told of a tree

-- a tree has no more records than a map may have
abbrev pub HasFew : Tree → Type 0
HasFew t = length (records t) ≤ count_limit

-- then each of some trees has no more
pub few_each : (ts : List Tree) → length (flat ts) ≤ count_limit → AllByRecursion HasFew ts
few_each [] few = tt
few_each (t ∷ ts) few = (
  omega (arith, few, length-append (records t) (flat ts)),
  few_each ts (omega (arith, few, length-append (records t) (flat ts))),
)

any_layers : (rs : List Record) → AllByRecursion IsRecord rs → AllByRecursion (HasLayer Two) rs
any_layers [] each = tt
any_layers (r ∷ rs) each = (each.0.layer, any_layers rs each.1)

pub full_told : (s : Scheme) (t : Tree) → IsFull t → HasFew t
    → MayTell s.version (entry s t).mask (entry s t).count
full_told s t full few =
    may_tell s t (some_record t full) few
    (All-from_recursion (HasLayer Two) (records t) (any_layers (records t) (full_records t full)))
