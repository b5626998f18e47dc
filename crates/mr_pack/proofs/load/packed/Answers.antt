use Rattle.std.proofs.Common.{length, map, ap, ◌∙◌, sym, arith}
use Rattle.std.proofs.lemmas.List.{length-map}
use Rattle.mr_pack.specs.Pack.{root_above, pack}
use Rattle.mr_pack.specs.declared.node.Node.{Node}
use Rattle.mr_pack.proofs.Orders.{if_ok}
use Rattle.mr_pack.proofs.Roots.{length_of_leaves}
use Rattle.mr_pack.proofs.load.packed.Goals as goal

pub root-requires : goal.root-requires
root-requires c =
    omega (
      arith,
      length-map c.in_ok-level.level.items (λ (n : Node). n.tree),
      ap length c.in_ok-level.ensures,
      length_of_leaves c.args.list.items,
      c.requires,
    )

pub returns : goal.returns
unfolding pack
returns c =
    if_ok c.root.result
    (λ t e. e
    ∙ ap (λ n. root_above n (map (λ (n : Node). n.tree) c.in_ok-level.level.items))
    (sym (length-map c.in_ok-level.level.items (λ (n : Node). n.tree)))
    ∙ ap (λ ts. root_above (length ts) ts) c.in_ok-level.ensures)
    c.root.ensures
