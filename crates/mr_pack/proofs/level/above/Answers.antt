use Rattle.std.proofs.Common.{map, ap, ◌∙◌, sym}
use Rattle.std.specs.Global.{Vec}
use Rattle.mr_tree.specs.declared.tree.Tree.TheVariants as tree
use Rattle.mr_pack.specs.Entries.{grouped}
use Rattle.mr_tree.specs.Limits.{inner_limit}
use Rattle.mr_pack.specs.Pack.{level_above}
use Rattle.mr_pack.specs.declared.node.Node.{Node}
use Rattle.mr_pack.proofs.Levels.{over_groups}
use Rattle.mr_pack.proofs.Natural.{grouped_map}
use Rattle.mr_pack.proofs.Orders.{if_ok}
use Rattle.mr_pack.proofs.level.above.Goals as goal

pub returns : goal.returns
unfolding level_above
returns c =
    if_ok c.inner_nodes.result
    (λ v e. e
    ∙ over_groups (λ ts. tree.Inner ts) (λ (n : Node). n.tree) (λ (g : Vec Node). g.items)
    c.in_ok-groups.groups.items
    ∙ ap (map (λ ts. tree.Inner ts))
    (ap (map (map (λ (n : Node). n.tree))) c.in_ok-groups.ensures
    ∙ sym (grouped_map (λ (n : Node). n.tree) inner_limit c.in_ok-entries.entries.items)
    ∙ ap (grouped inner_limit) c.in_ok-entries.ensures.value))
    c.inner_nodes.ensures
