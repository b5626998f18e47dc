use Rattle.std.proofs.Common.{◌≡◌, ◌+◌, ℕ, length, map, take}
use Rattle.std.specs.Global.{Vec}
use Rattle.std.specs.List.{flat_map, range_with_len}
use Rattle.mr_record.specs.declared.record.Record.{Record}
use Rattle.mr_tree.specs.declared.tree.Tree.TheVariants as tree
use Rattle.mr_pack.specs.Repeats.{occurrences}
use Rattle.mr_pack.specs.private.Remains.{IsIndexed, AreNumbered, picked}
use Rattle.mr_pack.specs.declared.node.Node.{Node}
use Rattle.mr_pack.proofs.level.leaves_of_groups.Given as goal

-- a leaf of each group so far, and the records of the others remain
abbrev pub invariant-loop-group : goal.invariant-loop-group
invariant-loop-group l = record {
  len : length l.leaves.items ≡ l.group-index;
  indexed : IsIndexed (length l.remains.items.items) l.remains.numbers.items l.remains.places.items;
  fewer : (n : ℕ) → occurrences n (flat_map (λ (g : Vec ℕ). g.items) (take l.group-index l.groups))
      + occurrences n l.remains.numbers.items
      ≡ occurrences n (range_with_len 0 (length l.fn.records.items));
  numbered : AreNumbered l.fn.records.items l.remains.items.items l.remains.numbers.items;
  leaves : (d : Record) → map (λ (n : Node). n.tree) l.leaves.items
      ≡ map (λ (g : Vec ℕ). tree.Leaf (picked l.fn.records.items d g.items)) (take l.group-index l.groups);
}
