use Rattle.std.proofs.Common.{◌≡◌, ◌≤◌, ◌∷◌, [], length, map, take, drop}
use Rattle.std.specs.List.{flat_map}
use Rattle.mr_record.specs.declared.version.Version.TheVariants.{One}
use Rattle.mr_tree.specs.Tree.{level}
use Rattle.mr_tree.specs.Digest.{by, entry, inner_tag}
use Rattle.mr_tree.specs.HasHashed.{HasHashed, of_entry}
use Rattle.mr_tree.specs.declared.tree.Tree.{Tree}
use Rattle.mr_tree.specs.Leaves.{leaf_entries}
use Rattle.mr_pack.proofs.joined.+entry_over.Given as goal

abbrev pub decreases-entry_over : goal.decreases-entry_over
decreases-entry_over g l = l.level

-- the children so far were gathered, and the entries of the other children's leaves are left
abbrev pub invariant-loop-child : goal.invariant-loop-child
invariant-loop-child g l = record {
  gathered : HasHashed (g.H.Hashes.holds l.all.hasher) l.all.rect l.all.mask l.all.count
      (inner_tag ∷ level l.fn.tree ∷ length l.child-items ∷ [])
      (map (λ (t : Tree). of_entry One (entry (by One g.H.Hashes.of) t)) (take l.child-index l.child-items));
  left : l.rest ≡ flat_map (leaf_entries (by One g.H.Hashes.of)) (drop l.child-index l.child-items);
  few : length l.rest ≤ length l.fn.entries;
  none : l.all.count ≡ 0;
}
