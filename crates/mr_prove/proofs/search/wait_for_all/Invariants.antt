use Rattle.std.proofs.Common.{◌++◌, take}
use Rattle.std.specs.BinaryHeap.{IsHeap, heap_items}
use Rattle.std.specs.List.Sorted.{IsPermutation}
use Rattle.mr_prove.specs.private.Search.{aim, nearest_first, waiting_of}
use Rattle.mr_prove.proofs.search.wait_for_all.Given as goal

abbrev pub invariant-loop-child : goal.invariant-loop-child
invariant-loop-child l = record {
  heap : IsHeap nearest_first (heap_items l.queue);
  joined : IsPermutation (heap_items l.initial.queue
      ++ waiting_of (aim l.sought) l.sought.version (take l.child-index l.children)) (heap_items l.queue);
}
