use Rattle.std.proofs.Common.{ap, map, ◌∙◌}
use Rattle.mr_tree.specs.View.{child_entry}
use Rattle.mr_clash.proofs.Nodes.{ok_as, owned_inner, above_zero}
use Rattle.mr_clash.proofs.strings.owned_string.Goals as goal

pub returns-in_ok-children : goal.returns-in_ok-children
returns-in_ok-children c =
    let above = above_zero _ c.level.result c.level.ensures.value c.if-level-eq0.false in
    ok_as c.inner_string.result _ _
    (owned_inner c.args.version c.args.view.now _ c.level-else-level-eq0.result c.in_ok-children.children.items
    c.deref.result.now (c.children.ensures.inner above) c.level-else-level-eq0.ensures.value
    (c.in_ok-children.ensures ∙ ap (map child_entry) c.children.ensures.value) c.deref.ensures.value)
    c.inner_string.ensures
