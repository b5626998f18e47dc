use Rattle.std.proofs.Common.{◌≡◌, length, map, ap, ◌∙◌, arith}
use Rattle.mr_pack.specs.Cuts.{parts, group_start, group_count}
use Rattle.mr_pack.specs.Entries.{arranged, in_groups, grouped}
use Rattle.mr_pack.specs.declared.placed.Placed.{Placed}
use Rattle.mr_pack.proofs.Orders.{if_ok}
use Rattle.mr_pack.proofs.grouping.group.Goals as goal

pub returns : goal.returns
unfolding in_groups
returns g c =
    let n : c.len.result ≡ length c.args.entries.items = omega arith in
    let p : c.group_count-groups.result ≡ group_count (length c.args.entries.items) c.args.capacity =
    c.group_count-groups.ensures.value ∙ ap (λ k. group_count k c.args.capacity) n in
    let item : Placed g.row.T.Denot → g.row.T.Denot = λ e. e.item in
    let groups : parts (group_start (length c.in_ok-items.items.items) c.group_count-groups.result)
    c.group_count-groups.result c.in_ok-items.items.items
    ≡ grouped c.args.capacity c.args.entries.items =
    (λ i. parts (group_start (c.in_ok-items.ensures.len i) c.group_count-groups.result) c.group_count-groups.result
    (c.in_ok-items.ensures.value i))
    ∙ (λ i. parts (group_start (length c.args.entries.items) (p i)) (p i)
    (map item (arranged (p i) c.args.entries.items))) in
    if_ok c.cut.result (λ v e. e ∙ groups) c.cut.ensures
