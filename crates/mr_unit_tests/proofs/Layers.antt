-- The layers of what comes by a batch, and of what stands in a tree.
use Rattle.std.specs.Prelude.{◌≡◌, All, List}
use Rattle.std.specs.List.Sorted.{IsPermutation}
use Rattle.std.proofs.lemmas.List.Sorted.{All-permutation}
use Rattle.mr_record.specs.Record.{HasLayer}
use Rattle.mr_record.specs.declared.record.Record.{Record}
use Rattle.mr_tree.specs.Tree.{records}
use Rattle.mr_tree.specs.WellFormed.{HasLayers}
use Rattle.mr_tree.specs.View.{Node, AreTold}
use Rattle.mr_tree.specs.declared.child.Child.{Child}
use Rattle.mr_tree.specs.declared.tree.Tree.{Tree}
use Rattle.mr_tree.specs.declared.tree.Tree.TheOpen.{Leaf, Inner}
use Rattle.mr_edit.specs.Held.{IsTold}
use Rattle.mr_edit.specs.Replayed.{IsOfVersion}
use Rattle.mr_edit.proofs.Shown.{leaf_told, inner_told}
use Rattle.mr_record.specs.declared.version.Version.{Version}
use Rattle.mr_record.specs.declared.version.Version.TheVariants.{One, Two}
use Rattle.mr_batch.specs.BatchText.{IsChange, IsBatch}
use Rattle.mr_batch.specs.Changes.{Changes, IsLayered}
use Rattle.mr_batch.specs.declared.change.Change.{Change}
use Rattle.mr_batch.specs.declared.change.Change.TheVariants.{Add, Remove}

-- what comes by a batch that was read lies on a layer that there is
layered_change : (v : Version) (c : Change) → IsChange v c → IsLayered c
layered_change v (Add r) is = is.0.layer
layered_change v (Remove n) is = tt

pub layered : (v : Version) (b : Changes) → IsBatch v b → All IsLayered b.list
layered v b is = λ k d within. layered_change v _ (is.changes.each k d within)

-- the tree of some records has their layers
pub packed_layers : (v : Version) (rs : List Record) (t : Tree) → All (HasLayer v) rs → IsPermutation rs (records t)
    → HasLayers v t
packed_layers v rs t all same = All-permutation (HasLayer v) rs (records t) same all

-- what a view shows that was made a leaf, or an inner node
pub leaf_shown : (n : Node) (rs : List Record) → n ≡ Leaf rs → All (HasLayer One) rs → AreTold One n
leaf_shown n rs is layers = leaf_told One n rs is layers

pub inner_shown : (n : Node) (cs : List Child) → n ≡ Inner cs → All (IsTold One) cs → AreTold One n
inner_shown n cs is told = inner_told One n cs is told

-- the same in version 2
pub leaf_counted : (n : Node) (rs : List Record) → n ≡ Leaf rs → All (HasLayer Two) rs → AreTold Two n
leaf_counted n rs is layers = leaf_told Two n rs is layers

pub inner_counted : (n : Node) (cs : List Child) → n ≡ Inner cs → All (IsTold Two) cs → AreTold Two n
inner_counted n cs is told = inner_told Two n cs is told

-- what comes by a batch of version 2
of_change : (c : Change) → IsChange Two c → IsOfVersion Two c
of_change (Add r) is = is.1
of_change (Remove n) is = tt

pub of_version : (b : Changes) → IsBatch Two b → All (IsOfVersion Two) b.list
of_version b is = λ k d within. of_change _ (is.changes.each k d within)
