use Rattle.std.proofs.Common.{◌≡◌, ◌+◌, ◌≤◌, map, take}
use Rattle.std.specs.Prelude.{IsSome}
use Rattle.mr_outside.specs.Faults.{next_count}
use Rattle.mr_tree.specs.Digest.{by}
use Rattle.mr_tree.specs.View.{child_entry}
use Rattle.mr_store.specs.private.Walk.{GathersAll, WalkedAll, nodes_in}
use Rattle.mr_store.proofs.walk.+walk.Given as goal

abbrev pub decreases-walk : goal.decreases-walk
decreases-walk g l = l.child.now.level

-- the children so far were walked over
abbrev pub invariant-loop-one : goal.invariant-loop-one
invariant-loop-one g l = record {
  kept : g.N.Nodes.kept l.fn.nodes l.nodes;
  quiet : g.N.Nodes.faults l.nodes ≡ g.N.Nodes.faults l.fn.nodes;
  unrefused : g.N.Nodes.refusal l.nodes ≡ g.N.Nodes.refusal l.fn.nodes;
  all : WalkedAll (by l.fn.version g.N.Hash.Hashes.of) (g.N.Nodes.stands l.fn.nodes) (take l.one-index l.one-items)
      l.fn.seen l.seen (g.N.Nodes.fetches l.fn.nodes + 1) (g.N.Nodes.fetches l.nodes)
      (GathersAll (g.G.Gather.gathers (by l.fn.version g.N.Hash.Hashes.of)) l.fn.into l.into l.below.items);
  same : map child_entry l.below.items ≡ map child_entry (take l.one-index l.one-items);
  fetched : IsSome (g.N.Nodes.stands l.fn.nodes).tree → g.N.Nodes.fetches l.nodes ≤
      next_count (g.N.Nodes.fetches l.fn.nodes)
      + nodes_in (g.N.Nodes.stands l.fn.nodes) (take l.one-index l.one-items);
}
