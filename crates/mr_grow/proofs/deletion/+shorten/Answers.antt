use Rattle.std.proofs.Common.{◌≢◌, length, sym, ◌∙◌, ap, arith}
use Rattle.mr_tree.specs.declared.tree.Tree.TheVariants as tree
use Rattle.mr_grow.specs.Shrink.{shortened}
use Rattle.mr_grow.proofs.Dropping.{none_is, some_is}
use Rattle.mr_grow.proofs.Shortened.{shortened-Empty, empty_leaf, some_leaf, one_child, other_children}
use Rattle.mr_grow.proofs.deletion.+shorten.Goals as goal

pub returns-in-Empty : goal.returns-in-Empty
returns-in-Empty t c = sym (ap shortened c.in-Empty.is ∙ shortened-Empty)

pub returns-then-is_empty : goal.returns-then-is_empty
returns-then-is_empty t c =
    empty_leaf c.in-Leaf.records c.args.tree c.in-Leaf.is
    (none_is c.as_slice.result.now c.in-Leaf.records c.is_empty.result c.as_slice.ensures c.is_empty.ensures
    c.if-is_empty.true)

pub returns-else-is_empty : goal.returns-else-is_empty
returns-else-is_empty t c =
    some_leaf c.in-Leaf.records c.args.tree c.in-Leaf.is
    (some_is c.as_slice.result.now c.in-Leaf.records c.is_empty.result c.as_slice.ensures c.is_empty.ensures
    c.if-is_empty.false)

pub returns-then-len-eq1 : goal.returns-then-len-eq1
returns-then-len-eq1 t c =
    one_child c.in-Inner.children c.into_vec-children.result.items c.remove-child.result c.args.tree c.shorten.result
    c.in-Inner.is
    c.into_vec-children.ensures (omega (arith, c.len.ensures, c.if-len-eq1.true)) c.remove-child.ensures.value
    c.shorten.ensures

pub returns-else-len-eq1 : goal.returns-else-len-eq1
returns-else-len-eq1 t c =
    let other : length c.into_vec-children.result.items ≢ 1 = λ one. omega (
      arith,
      c.len.ensures,
      c.if-len-eq1.false,
      one,
    ) in
    ap (λ us. tree.Inner us) c.of.ensures ∙ other_children c.in-Inner.children c.into_vec-children.result.items
    c.args.tree c.in-Inner.is c.into_vec-children.ensures other
