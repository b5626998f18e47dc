use Rattle.std.proofs.Common.{◌≡◌}
use Rattle.std.specs.BinaryHeap.{IsHeap, heap_items}
use Rattle.std.specs.List.{sum_by}
use Rattle.mr_prove.specs.private.Search.{aim, nearest_first, Best, Searching, Bounded, weight}
use Rattle.mr_prove.proofs.search.best_first.Given as goal

abbrev pub invariant-loop-next : goal.invariant-loop-next
invariant-loop-next g l = record {
  kept : g.N.Nodes.kept l.initial.nodes l.nodes;
  heap : IsHeap nearest_first (heap_items l.queue);
  best : Best l.sought.k (heap_items l.best);
  searching : Searching g.N.Hash.Hashes.of (aim l.sought) (g.N.Nodes.stands l.initial.nodes) (heap_items l.queue)
      (heap_items l.best);
  bounded : Bounded g.N.Hash.Hashes.of (aim l.sought) (g.N.Nodes.stands l.initial.nodes) (heap_items l.queue)
      (g.N.Nodes.fetches l.initial.nodes) (g.N.Nodes.fetches l.nodes);
  still : g.N.Nodes.faults l.nodes ≡ g.N.Nodes.faults l.initial.nodes;
  unrefused : g.N.Nodes.refusal l.nodes ≡ g.N.Nodes.refusal l.initial.nodes;
}

abbrev pub decreases-loop-next : goal.decreases-loop-next
decreases-loop-next g l = sum_by weight (heap_items l.queue)
