-- The layers of records in another order, and of those that a version may hold.
use Rattle.std.proofs.Common.{Bool, true, false, List, [], ◌∷◌}
use Rattle.std.specs.Prelude.{All, IfOk, Result, Ok, Err, if◌then◌else◌}
use Rattle.std.specs.List.Sorted.{IsPermutation}
use Rattle.std.proofs.lemmas.List.Sorted.{All-permutation}
use Rattle.std.specs.List.{AllByRecursion}
use Rattle.std.proofs.lemmas.List.Elements.{recursion_from_All, All-from_recursion}
use Rattle.mr_record.specs.Record.{HasLayer}
use Rattle.mr_record.specs.Sorting.{put_in, sorted_by}
use Rattle.mr_record.specs.declared.record.Record.{Record}
use Rattle.mr_record.specs.declared.version.Version.{Version}
use Rattle.mr_tree.specs.Tree.{records}
use Rattle.mr_tree.specs.WellFormed.{HasLayers}
use Rattle.mr_tree.specs.declared.tree.Tree.{Tree}
use Rattle.mr_query.specs.Scan.{by_number}

put_each : {A : Type 0} (P : A → Type 0) (before : A → A → Bool) (x : A) (ys : List A) → P x → AllByRecursion P ys
    → AllByRecursion P (put_in before x ys)
put_each P before x [] here all = (here, all)
put_each P before x (y ∷ ys) here all =
    elim (before y x) as (λ b. AllByRecursion P (if b then y ∷ put_in before x ys else x ∷ y ∷ ys)) [
      | true ↦ (all.0, put_each P before x ys here all.1)
      | false ↦ (here, all)
    ]

pub sorted_each : {A : Type 0} (P : A → Type 0) (before : A → A → Bool) (xs : List A) → AllByRecursion P xs
    → AllByRecursion P (sorted_by before xs)
sorted_each P before [] all = tt
sorted_each P before (x ∷ xs) all =
    put_each P before x (sorted_by before xs) all.0 (sorted_each P before xs all.1)

-- in rising number
pub numbered_layers : (v : Version) (rs : List Record) → All (HasLayer v) rs → All (HasLayer v) (by_number rs)
numbered_layers v rs all =
    All-from_recursion (HasLayer v) (by_number rs)
    (sorted_each (HasLayer v) _ rs (recursion_from_All (HasLayer v) rs all))

-- records in the order of a tree
pub tree_layers : (v : Version) (rs : List Record) (t : Tree) → All (HasLayer v) rs → IsPermutation rs (records t)
    → HasLayers v t
tree_layers v rs t all same = All-permutation (HasLayer v) rs (records t) same all

pub packed_layers : {A E : Type 0} (v : Version) (rs : List Record) (result : Result (Tree × A) E)
    → All (HasLayer v) rs → IfOk result (λ p. IsPermutation rs (records p.0)) → IfOk result (λ p. HasLayers v p.0)
packed_layers v rs (Ok p) all same = tree_layers v rs p.0 all same
packed_layers v rs (Err e) all same = tt
