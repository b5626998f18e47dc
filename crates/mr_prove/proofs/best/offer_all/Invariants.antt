use Rattle.std.proofs.Common.{◌≡◌, ℕ, ◌+◌, take, min}
use Rattle.std.specs.BinaryHeap.{heap_items}
use Rattle.mr_query.specs.private.Radius.{below}
use Rattle.mr_prove.specs.private.Search.{aim, distances_on, Best}
use Rattle.mr_prove.proofs.best.offer_all.Given as goal

abbrev pub invariant-loop-record : goal.invariant-loop-record
invariant-loop-record l = record {
  best : Best l.sought.k (heap_items l.best);
  least : (x : ℕ) → min l.sought.k (below x (heap_items l.best))
      ≡ min l.sought.k (below x (heap_items l.initial.best)
      + below x (distances_on (aim l.sought) (take l.record-index l.records)));
}
