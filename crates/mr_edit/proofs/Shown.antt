-- What a version tells of the node that a view shows; what holds of records holds of them in another order.
use Rattle.std.proofs.Common.{◌≡◌, Bool, true, false, ℕ, List, [], ◌∷◌, sym, subst}
use Rattle.std.specs.Prelude.{All, Option, Some, None, IfSome, if◌then◌else◌}
use Rattle.std.specs.List.{AllByRecursion}
use Rattle.std.specs.Option.{option_to_list}
use Rattle.std.proofs.lemmas.List.Elements.{All-nil, recursion_from_All, All-from_recursion}
use Rattle.mr_record.specs.Record.{HasLayer}
use Rattle.mr_record.specs.Sorting.{put_in, sorted_by, sorted_by_key}
use Rattle.mr_record.specs.declared.record.Record.{Record}
use Rattle.mr_record.specs.declared.version.Version.{Version}
use Rattle.mr_tree.specs.View as view
use Rattle.mr_tree.specs.View.{AreTold}
use Rattle.mr_tree.specs.declared.child.Child.{Child}
use Rattle.mr_tree.specs.declared.tree.Tree.TheOpen.{Leaf, Inner}
use Rattle.mr_edit.specs.Held.{IsTold}

-- ---- what a version tells of a node

pub leaf_told : (v : Version) (n : view.Node) (rs : List Record) → n ≡ Leaf rs → All (HasLayer v) rs → AreTold v n
leaf_told v n rs is layers = subst (AreTold v) (sym is)
    (record { layers = layers; children = All-nil (IsTold v) })

pub inner_told : (v : Version) (n : view.Node) (cs : List Child) → n ≡ Inner cs → All (IsTold v) cs → AreTold v n
inner_told v n cs is told = subst (AreTold v) (sym is)
    (record { layers = All-nil (HasLayer v); children = told })

-- ---- lists

pub of_option : {X : Type 0} (P : X → Type 0) (o : Option X) → IfSome o P → AllByRecursion P (option_to_list o)
of_option P None all = tt
of_option P (Some x) all = (all, tt)

module _ {X : Type 0} (P : X → Type 0) (before : X → X → Bool) where
  either : (b : Bool) (xs ys : List X) → AllByRecursion P xs → AllByRecursion P ys →
      AllByRecursion P (if b then xs else ys)
  either true xs ys all more = all
  either false xs ys all more = more

  placed_all : (x : X) (ys : List X) → P x → AllByRecursion P ys → AllByRecursion P (put_in before x ys)
  placed_all x [] one all = (one, tt)
  placed_all x (y ∷ ys) one all =
      either (before y x) (y ∷ put_in before x ys) (x ∷ y ∷ ys) (all.0, placed_all x ys one all.1) (one, all)

  sorted_all : (xs : List X) → AllByRecursion P xs → AllByRecursion P (sorted_by before xs)
  sorted_all [] all = tt
  sorted_all (x ∷ xs) all = placed_all x (sorted_by before xs) all.0 (sorted_all xs all.1)

pub layers_sorted : (v : Version) (key : Record → ℕ) (rs sorted : List Record) → sorted ≡ sorted_by_key key rs →
    All (HasLayer v) rs → All (HasLayer v) sorted
layers_sorted v key rs sorted is layers =
    subst (All (HasLayer v)) (sym is)
    (All-from_recursion (HasLayer v) (sorted_by_key key rs)
    (sorted_all (HasLayer v) _ rs (recursion_from_All (HasLayer v) rs layers)))
