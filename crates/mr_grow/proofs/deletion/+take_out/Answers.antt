use Rattle.std.proofs.Common.{◌≡◌, ◌<◌, ap, ◌∙◌, arith}
use Rattle.std.proofs.lemmas.Result.{IfOk-weaker}
use Rattle.mr_tree.specs.Tree.{nodes, records}
use Rattle.mr_tree.specs.declared.tree.Tree.{Tree}
use Rattle.mr_grow.specs.Found.{has, is_numbered, place_of}
use Rattle.mr_grow.specs.private.Kept.{removal_value}
use Rattle.mr_grow.proofs.Shrunk.{leaf_place, leaf_left, child_place, child_has, kept_by_code}
use Rattle.mr_grow.proofs.deletion.+take_out.Goals as goal

pub remove-requires : goal.remove-requires
remove-requires t c =
    let place = leaf_place c.args.number c.in-Leaf.records c.into_vec-records.result.items c.args.tree c.in-Leaf.is
    c.into_vec-records.ensures c.requires in
    omega (
      arith,
      place,
      c.position_of-at.ensures,
      ap (λ rs. place_of (is_numbered c.args.number) rs)
          c.deref.ensures.value,
    )

pub remove-child-requires : goal.remove-child-requires
remove-child-requires t c =
    let place = child_place c.args.number c.in-Inner.children c.into_vec-children.result.items c.args.tree
    c.in-Inner.is c.into_vec-children.ensures c.requires in
    omega (
      arith,
      place,
      c.child_with-at.ensures,
      ap (λ ts. place_of (λ (u : Tree). has c.args.number (records u)) ts)
          c.deref-in-Inner.ensures.value,
    )

pub take_out-requires : goal.take_out-requires
take_out-requires t c =
    let place = child_place c.args.number c.in-Inner.children c.into_vec-children.result.items c.args.tree
    c.in-Inner.is c.into_vec-children.ensures c.requires in
    let at = c.child_with-at.ensures ∙ ap (λ ts. place_of (λ (u : Tree). has c.args.number (records u)) ts)
    c.deref-in-Inner.ensures.value in
    let below = child_has c.args.number c.in-Inner.children c.into_vec-children.result.items c.child_with-at.result
    c.remove-child.result c.args.tree
    c.in-Inner.is c.into_vec-children.ensures at c.remove-child.ensures.value c.requires in
    let here : nodes c.args.tree ≡ t = c.decreases in
    let smaller : nodes c.remove-child.result < t = omega (arith, below.fewer, here) in
    (smaller, below.has_it)

pub returns-in-Leaf : goal.returns-in-Leaf
returns-in-Leaf t c =
    let at = c.position_of-at.ensures ∙ ap (λ rs. place_of (is_numbered c.args.number) rs) c.deref.ensures.value in
    leaf_left c.args.number c.in-Leaf.records c.into_vec-records.result.items _ _ _ c.args.tree c.in-Leaf.is
    c.into_vec-records.ensures at c.remove.ensures.items c.of.ensures c.new-in-Leaf.ensures.items

pub returns-in_ok-left-in-Inner : goal.returns-in_ok-left-in-Inner
returns-in_ok-left-in-Inner t c =
    let place = child_place c.args.number c.in-Inner.children c.into_vec-children.result.items c.args.tree
    c.in-Inner.is c.into_vec-children.ensures c.requires in
    let at = c.child_with-at.ensures ∙ ap (λ ts. place_of (λ (u : Tree). has c.args.number (records u)) ts)
    c.deref-in-Inner.ensures.value in
    IfOk-weaker c.settle.result _ _
    (λ l h. h ∙ kept_by_code c.args.number c.in-Inner.children c.into_vec-children.result.items _
    c.child_with-at.result c.remove-child.result c.args.tree (removal_value c.in_ok-left-in-Inner.left)
    c.in-Inner.is c.into_vec-children.ensures at (omega (arith, place, at)) c.remove-child.ensures.value
    c.remove-child.ensures.items c.in_ok-left-in-Inner.ensures)
    c.settle.ensures
