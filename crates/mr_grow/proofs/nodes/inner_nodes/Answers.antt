use Rattle.std.proofs.Common.{◌≡◌, length, map, ap, ◌∙◌, arith}
use Rattle.mr_tree.specs.Limits.{inner_limit, inner_fill}
use Rattle.mr_tree.specs.declared.tree.Tree.TheVariants as tree
use Rattle.mr_split.specs.Split.{sides}
use Rattle.mr_grow.specs.Grow.{outline}
use Rattle.mr_grow.proofs.Grouped.{one_node, two_nodes}
use Rattle.mr_grow.proofs.nodes.inner_nodes.Goals as goal

pub returns-else-len : goal.returns-else-len
returns-else-len c =
    let xs = c.args.children.items in
    let long : c.len.result ≡ length xs = omega (arith, c.len.ensures, c.args.children.ok) in
    one_node (λ group. tree.Inner group) inner_fill inner_limit (map outline xs) xs c.len.result _ long c.if-len.false
    c.of-else-len.ensures

pub returns-in_ok-first : goal.returns-in_ok-first
returns-in_ok-first c =
    let xs = c.args.children.items in
    let long : c.len.result ≡ length xs = omega (arith, c.len.ensures, c.args.children.ok) in
    let rects = c.deref-then-len.ensures.value ∙ c.in_ok-rects_of.ensures ∙ ap (map outline) c.deref.ensures.value in
    two_nodes (λ group. tree.Inner group) inner_fill inner_limit (map outline xs) xs c.len.result
    c.deref-then-len-2.result.now _ _ long c.if-len.true
    (c.deref-then-len-2.ensures.value ∙ c.in_ok-sides.ensures.exact ∙ ap (λ rs. sides rs inner_fill) rects)
    (c.of.ensures ∙ c.in_ok-first.ensures.first) (c.of-then-len.ensures ∙ c.in_ok-first.ensures.second)
