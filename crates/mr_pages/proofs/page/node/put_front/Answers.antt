use Rattle.std.proofs.Common.{◌<◌, ◌++◌, subst, ◌∙◌, arith, map}
use Rattle.std.specs.List.{flat_map}
use Rattle.mr_tree.specs.View as view
use Rattle.mr_pages.specs.PageBytes.{link_bytes}
use Rattle.mr_pages.specs.Walking.{child_link}
use Rattle.mr_pages.proofs.ViewPages.{inner_bytes}
use Rattle.mr_pages.proofs.page.node.put_front.Goals as goal

pub returns-else-level-eq0-clause-bytes : goal.returns-else-level-eq0-clause-bytes
returns-else-level-eq0-clause-bytes c =
    c.put_children.ensures.bytes
    ∙ (λ i. c.put-at-else-level-eq0.ensures.bytes i ++ flat_map (link_bytes c.args.version)
    (map child_link (c.children.ensures.value i)))
    ∙ inner_bytes c.args.version c.args.node.now (view.children_in c.args.node.now) _ _
    (c.children.ensures.inner (subst (λ n. 0 < n) c.level.ensures.value (omega arith)))
    c.level-else-level-eq0.ensures.value c.len-len.ensures.value
