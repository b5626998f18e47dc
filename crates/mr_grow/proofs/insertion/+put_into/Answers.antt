use Rattle.std.proofs.Common.{◌≡◌, ◌<◌, ◌++◌, ◌∷◌, [], length, sym, ap, ◌∙◌, arith}
use Rattle.std.proofs.lemmas.List.{length_push}
use Rattle.std.proofs.lemmas.Result.{IfOk-weaker}
use Rattle.mr_tree.specs.Tree.{nodes}
use Rattle.mr_grow.specs.Grow.{grown, leaves_over}
use Rattle.mr_grow.proofs.Below.{child_below, some_child, leaf_room, inner_room, length_removed}
use Rattle.mr_grow.proofs.Grown.{grown-Leaf, grown_of_empty, grown_by_code}
use Rattle.mr_grow.proofs.insertion.+put_into.Goals as goal

pub place_for-requires : goal.place_for-requires
place_for-requires t c = some_child c.in-Inner.children _ c.args.tree c.in-Inner.is
    (c.deref.ensures.value ∙ c.into_vec-children.ensures) c.requires

pub put_into-requires : goal.put_into-requires
put_into-requires t c =
    let within : c.in_ok-at-in-Inner.at < length c.into_vec-children.result.items = omega
    (arith, c.in_ok-at-in-Inner.ensures.within, ap length c.deref.ensures.value) in
    let below = child_below c.in-Inner.children c.into_vec-children.result.items c.in_ok-at-in-Inner.at
    c.remove-child.result c.args.tree c.in-Inner.is c.into_vec-children.ensures
    c.remove-child.ensures.value within c.requires in
    let here : nodes c.args.tree ≡ t = c.decreases in
    let smaller : nodes c.remove-child.result < t = omega (arith, below.fewer, here) in
    (smaller, below.every)

pub leaves-requires-in-Leaf : goal.leaves-requires-in-Leaf
leaves-requires-in-Leaf t c =
    let room = leaf_room c.in-Leaf.records c.into_vec-records.result.items c.args.tree c.in-Leaf.is
    c.into_vec-records.ensures c.requires in
    omega (
      arith,
      room,
      ap length c.in_ok-push-in-Leaf.ensures.items,
      length_push c.into_vec-records.result.items
          c.args.one,
    )

pub inner_nodes-requires : goal.inner_nodes-requires
inner_nodes-requires t c =
    let within : c.in_ok-at-in-Inner.at < length c.into_vec-children.result.items = omega
    (arith, c.in_ok-at-in-Inner.ensures.within, ap length c.deref.ensures.value) in
    let room = inner_room c.in-Inner.children c.into_vec-children.result.items c.args.tree c.in-Inner.is
    c.into_vec-children.ensures c.requires in
    omega (
      arith,
      room,
      c.in_ok-put_back-in-Inner.ensures.length_at_most,
      ap length c.remove-child.ensures.items,
      length_removed c.in_ok-at-in-Inner.at c.into_vec-children.result.items within,
    )

pub returns-in_ok-from_array-in-Empty : goal.returns-in_ok-from_array-in-Empty
returns-in_ok-from_array-in-Empty t c =
    IfOk-weaker c.leaves.result _ _ (λ s h. h ∙ ap leaves_over c.in_ok-from_array-in-Empty.ensures.items ∙ sym
    (ap (grown c.args.one) c.in-Empty.is ∙ grown_of_empty c.args.one)) c.leaves.ensures

pub returns-in_ok-push-in-Leaf : goal.returns-in_ok-push-in-Leaf
returns-in_ok-push-in-Leaf t c =
    IfOk-weaker c.leaves-in-Leaf.result _ _
    (λ s h. h ∙ ap leaves_over (c.in_ok-push-in-Leaf.ensures.items ∙ ap (λ rs. rs ++ c.args.one ∷ [])
    c.into_vec-records.ensures)
    ∙ sym (ap (grown c.args.one) c.in-Leaf.is ∙ grown-Leaf c.args.one c.in-Leaf.records)) c.leaves-in-Leaf.ensures

pub returns-in_ok-put_back-in-Inner : goal.returns-in_ok-put_back-in-Inner
returns-in_ok-put_back-in-Inner t c =
    let within : c.in_ok-at-in-Inner.at < length c.into_vec-children.result.items = omega
    (arith, c.in_ok-at-in-Inner.ensures.within, ap length c.deref.ensures.value) in
    IfOk-weaker c.inner_nodes.result _ _
    (λ s h. h ∙ grown_by_code c.args.one c.in-Inner.children c.into_vec-children.result.items _ _ _
    c.in_ok-at-in-Inner.at c.remove-child.result c.args.tree
    c.in-Inner.is c.into_vec-children.ensures c.deref.ensures.value c.in_ok-at-in-Inner.ensures.value within
    c.remove-child.ensures.value c.remove-child.ensures.items c.in_ok-stand-in-Inner.ensures
    c.in_ok-put_back-in-Inner.ensures.value)
    c.inner_nodes.ensures
