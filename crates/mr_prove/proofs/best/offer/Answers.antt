use Rattle.std.proofs.Common.{◌∙◌, ap, min, arith, length}
use Rattle.std.specs.BinaryHeap.{heap_items, heap_len}
use Rattle.std.proofs.lemmas.List.Sorted.{length_permutation}
use Rattle.mr_query.proofs.Counts.{below-permutation}
use Rattle.mr_prove.proofs.Least.{low_pushed, best_popped, least_popped}
use Rattle.mr_prove.proofs.best.offer.Goals as goal

pub returns-then-as_slice-k-clause-best : goal.returns-then-as_slice-k-clause-best
returns-then-as_slice-k-clause-best c =
    let moved = length_permutation _ _ c.in_ok-push.ensures.permutation in
    let few = c.requires.best.few in
    best_popped c.args.k (heap_len c.push.new.self) (heap_items c.push.new.self)
    (heap_items c.pop-greatest.new.self) c.pop-greatest.result c.pop-greatest.ensures.none
    (omega (arith, c.as_slice.ensures.len)) c.pop-greatest.ensures.permutation c.pop-greatest.ensures.heap_order
    (c.in_ok-push.ensures.heap_order c.requires.best.heap)
    (low_pushed c.args.far _ _ c.requires.low c.requires.best.low c.in_ok-push.ensures.permutation)
    (omega (arith, moved, few))

pub returns-then-as_slice-k-clause-least : goal.returns-then-as_slice-k-clause-least
returns-then-as_slice-k-clause-least c = λ x.
    least_popped c.args.k x (heap_len c.push.new.self) (heap_items c.push.new.self)
    (heap_items c.pop-greatest.new.self) c.pop-greatest.result c.pop-greatest.ensures.none
    (omega (arith, c.as_slice.ensures.len)) c.pop-greatest.ensures.permutation c.pop-greatest.ensures.heap_order
    (c.in_ok-push.ensures.heap_order c.requires.best.heap) (omega (arith, ap length c.as_slice.ensures.value))
    ∙ ap (min c.args.k) (below-permutation x _ _ c.in_ok-push.ensures.permutation)

pub returns-else-as_slice-k-clause-best : goal.returns-else-as_slice-k-clause-best
returns-else-as_slice-k-clause-best c = record {
  heap = c.in_ok-push.ensures.heap_order c.requires.best.heap;
  few = omega (arith, ap length c.as_slice.ensures.value);
  low = low_pushed c.args.far _ _ c.requires.low c.requires.best.low c.in_ok-push.ensures.permutation;
}

pub returns-else-as_slice-k-clause-least : goal.returns-else-as_slice-k-clause-least
returns-else-as_slice-k-clause-least c = λ x.
    ap (min c.args.k) (below-permutation x _ _ c.in_ok-push.ensures.permutation)
