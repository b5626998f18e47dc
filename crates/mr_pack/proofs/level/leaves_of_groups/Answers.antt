use Rattle.std.proofs.Common.{◌≤◌, ◌+◌, ℕ, length, map, ap, subst, sym, ◌∙◌, arith}
use Rattle.std.specs.Global.{Vec}
use Rattle.std.specs.List.{range_with_len}
use Rattle.std.proofs.lemmas.List.{length_push, take_all}
use Rattle.mr_tree.specs.declared.tree.Tree.TheVariants as tree
use Rattle.mr_pack.specs.Repeats.{occurrences}
use Rattle.mr_pack.specs.private.Remains.{picked}
use Rattle.mr_pack.specs.declared.node.Node.{Node}
use Rattle.mr_pack.proofs.Shares.{group_there, group_gone, one_more_leaf}
use Rattle.mr_pack.proofs.level.leaves_of_groups.Goals as goal

pub take-requires-clause-there : goal.take-requires-clause-there
take-requires-clause-there c = λ n.
    subst (λ ks. occurrences n ks ≤ occurrences n c.loop-group.remains.numbers.items) (sym c.deref.ensures.value)
    (group_there n c.loop-group.group-index c.args.groups.now c.group-item.result c.loop-group.remains.numbers.items
    (range_with_len 0 (length c.args.records.items)) (omega arith) c.group-item.is c.requires
    (c.loop-group.invariant.fewer n))

pub loop-group-preserved : goal.loop-group-preserved
loop-group-preserved c =
    let i = c.loop-group.group-index in
    record {
      len = omega (
        arith,
        ap length c.in_ok-push.ensures.items,
        length_push c.loop-group.leaves.items c.leaf.result,
        c.loop-group.invariant.len,
      );
      indexed = c.in_ok-taken.ensures.indexed;
      fewer = λ n. group_gone n i c.args.groups.now c.group-item.result c.loop-group.remains.numbers.items
          c.take.new.remains.numbers.items (range_with_len 0 (length c.args.records.items)) (omega arith)
          c.group-item.is (c.loop-group.invariant.fewer n)
          (ap (λ ks. occurrences n ks + occurrences n c.take.new.remains.numbers.items) (sym c.deref.ensures.value)
          ∙ c.in_ok-taken.ensures.fewer n);
      numbered = c.in_ok-taken.ensures.numbered c.args.records.items c.loop-group.invariant.numbered;
      leaves = λ d. one_more_leaf (λ (n : Node). n.tree)
          (λ (g : Vec ℕ). tree.Leaf (picked c.args.records.items d g.items)) i c.loop-group.leaves.items
          c.push.new.self.items c.leaf.result c.args.groups.now c.group-item.result (omega arith) c.group-item.is
          (c.loop-group.invariant.leaves d) c.in_ok-push.ensures.items
          (c.leaf.ensures
          ∙ ap (λ rs. tree.Leaf rs)
          (c.in_ok-taken.ensures.items c.args.records.items d c.loop-group.invariant.numbered
          ∙ ap (picked c.args.records.items d) c.deref.ensures.value));
    }

pub returns-clause-leaves : goal.returns-clause-leaves
returns-clause-leaves c = λ d.
    c.loop-group.invariant.leaves d
    ∙ ap (map (λ (g : Vec ℕ). tree.Leaf (picked c.args.records.items d g.items)))
    (take_all c.loop-group.group-index c.args.groups.now (omega arith))
