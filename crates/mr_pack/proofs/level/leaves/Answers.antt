use Rattle.std.proofs.Common.{ℕ, ◌≡◌, length, get_or, map, ap, subst, ◌∙◌, arith}
use Rattle.std.specs.Global.{Vec}
use Rattle.std.specs.List.{range_with_len}
use Rattle.std.proofs.lemmas.List.{length-map}
use Rattle.mr_record.specs.declared.record.Record.{Record}
use Rattle.mr_pack.specs.Pack.{placed_record}
use Rattle.mr_pack.specs.declared.node.Node.{Node}
use Rattle.mr_pack.specs.private.Views.{with_item}
use Rattle.mr_pack.proofs.Orders.{both_ok}
use Rattle.mr_pack.proofs.Shares.{length_of_numbered, groups_mixed, leaves_of_places}
use Rattle.mr_pack.proofs.level.leaves.Goals as goal

pub group-requires-clause-few : goal.group-requires-clause-few
group-requires-clause-few c =
    omega (
      arith,
      ap length c.deref.ensures.value,
      c.requires,
      length_of_numbered (length c.deref.result.now) c.in_ok-entries.entries.items c.in_ok-entries.ensures.numbers,
    )

pub leaves_of_groups-requires : goal.leaves_of_groups-requires
leaves_of_groups-requires c =
    groups_mixed (length c.args.records.items) c.in_ok-entries.entries.items c.deref-2.result.now
    (c.in_ok-entries.ensures.numbers ∙ ap (λ rs. range_with_len 0 (length rs)) c.deref.ensures.value)
    (ap (map (λ (g : Vec ℕ). g.items)) c.deref-2.ensures.value ∙ c.in_ok-groups.ensures)

pub returns : goal.returns
returns c =
    both_ok c.leaves_of_groups.result
    (λ v count leaves. leaves_of_places c.args.records.items c.in_ok-entries.entries.items c.deref-2.result.now
    (map (λ (n : Node). n.tree) v.items)
    (length_of_numbered (length c.args.records.items) c.in_ok-entries.entries.items
    (c.in_ok-entries.ensures.numbers ∙ ap (λ rs. range_with_len 0 (length rs)) c.deref.ensures.value))
    (ap (map (λ (g : Vec ℕ). g.items)) c.deref-2.ensures.value ∙ c.in_ok-groups.ensures)
    (subst (λ rs. (d : Record) → map (with_item (λ n. get_or rs n d)) c.in_ok-entries.entries.items
    ≡ map placed_record rs) c.deref.ensures.value c.in_ok-entries.ensures.placed)
    (length-map v.items (λ (n : Node). n.tree) ∙ count) leaves)
    c.leaves_of_groups.ensures.len c.leaves_of_groups.ensures.leaves
