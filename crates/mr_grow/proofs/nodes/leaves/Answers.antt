use Rattle.std.proofs.Common.{◌≡◌, length, map, ap, ◌∙◌, arith}
use Rattle.mr_record.specs.declared.record.Record.{Record}
use Rattle.mr_tree.specs.Limits.{leaf_limit, leaf_fill}
use Rattle.mr_tree.specs.declared.tree.Tree.TheVariants as tree
use Rattle.mr_split.specs.Split.{sides}
use Rattle.mr_grow.proofs.Grouped.{one_node, two_nodes}
use Rattle.mr_grow.proofs.nodes.leaves.Goals as goal

pub returns-else-len : goal.returns-else-len
returns-else-len c =
    let xs = c.args.records.items in
    let long : c.len.result ≡ length xs = omega (arith, c.len.ensures, c.args.records.ok) in
    one_node (λ group. tree.Leaf group) leaf_fill leaf_limit (map (λ (r : Record). r.rect) xs) xs c.len.result _ long
    c.if-len.false c.of-else-len.ensures

pub returns-in_ok-first : goal.returns-in_ok-first
returns-in_ok-first c =
    let xs = c.args.records.items in
    let long : c.len.result ≡ length xs = omega (arith, c.len.ensures, c.args.records.ok) in
    let rects = c.deref-then-len.ensures.value ∙ c.in_ok-rects_of.ensures
    ∙ ap (map (λ (r : Record). r.rect)) c.deref.ensures.value in
    two_nodes (λ group. tree.Leaf group) leaf_fill leaf_limit (map (λ (r : Record). r.rect) xs) xs c.len.result
    c.deref-then-len-2.result.now _ _ long c.if-len.true
    (c.deref-then-len-2.ensures.value ∙ c.in_ok-sides.ensures.exact ∙ ap (λ rs. sides rs leaf_fill) rects)
    (c.of.ensures ∙ c.in_ok-first.ensures.first) (c.of-then-len.ensures ∙ c.in_ok-first.ensures.second)
