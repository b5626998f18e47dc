use Rattle.std.proofs.Common.{◌≤◌, ◌+◌, ◌∷◌, [], length, map, take, drop}
use Rattle.std.specs.List.{flat_map}
use Rattle.mr_tree.specs.Tree.{level, records}
use Rattle.mr_tree.specs.Digest.{by, entry, inner_tag}
use Rattle.mr_tree.specs.declared.tree.Tree.{Tree}
use Rattle.mr_tree.specs.HasHashed.{HasHashed, of_entry}
use Rattle.mr_tree.proofs.digest.+tree_entry.Given as goal

abbrev pub decreases-tree_entry : goal.decreases-tree_entry
decreases-tree_entry g l = level l.tree.now

-- the children so far were gathered, and those that are left have no more records than are left
abbrev pub invariant-loop-child : goal.invariant-loop-child
invariant-loop-child g l = record {
  all : HasHashed (g.H.Hashes.holds l.all.hasher) l.all.rect l.all.mask l.all.count
      (inner_tag ∷ level l.fn.tree ∷ length l.child-items ∷ [])
      (map (λ (t : Tree). of_entry l.version (entry (by l.version g.H.Hashes.of) t))
      (take l.child-index l.child-items));
  few : l.all.count + length (flat_map (λ list. list) (map records (drop l.child-index l.child-items)))
      ≤ length (records l.fn.tree);
}
