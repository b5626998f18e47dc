use Rattle.std.proofs.Common.{◌≡◌, ◌++◌, map, take}
use Rattle.std.specs.Prelude.{All}
use Rattle.std.specs.List.{flat_map}
use Rattle.mr_tree.specs.Tree.{level}
use Rattle.mr_tree.specs.Digest.{by}
use Rattle.mr_tree.specs.View.{MayTell}
use Rattle.mr_tree.specs.Nodes.{subtrees}
use Rattle.mr_tree.specs.Snapshot.{trees, tree_at, IsLinked, AreLinked}
use Rattle.mr_tree.specs.declared.child.Child.{Child}
use Rattle.mr_tree.proofs.placing.+place.Given as goal

-- the children so far stand behind the others, and these are their entries
abbrev pub invariant-loop-child : goal.invariant-loop-child
invariant-loop-child g l = record {
  linked : AreLinked (by l.version g.H.Hashes.of) l.nodes.items;
  grown : trees l.nodes.items ≡ trees l.initial.nodes.items ++ flat_map subtrees (take l.child-index l.child-items);
  links : All (IsLinked (by l.version g.H.Hashes.of) (trees l.nodes.items)) l.entries.items;
  told : All (λ (c : Child). MayTell l.version c.mask c.count) l.entries.items;
  below : map (λ (c : Child). tree_at (trees l.nodes.items) c.id) l.entries.items ≡ take l.child-index l.child-items;
}

abbrev pub decreases-place : goal.decreases-place
decreases-place g l = level l.tree.now
