use Rattle.std.specs.BinaryHeap.{heap_items}
use Rattle.mr_prove.specs.private.Search.{aim}
use Rattle.mr_prove.proofs.Queue.{queued_more}
use Rattle.mr_prove.proofs.search.wait_for_all.Goals as goal

pub loop-child-preserved : goal.loop-child-preserved
loop-child-preserved c = record {
  heap = c.in_ok-wait_for.ensures.heap;
  joined =
      queued_more (aim c.args.sought.now) c.args.sought.now.version (heap_items c.args.queue.now)
      (heap_items c.loop-child.queue) (heap_items c.wait_for.new.queue) c.args.children.now c.loop-child.child-index
      c.child-item.result c.child-item.is c.loop-child-test.true c.loop-child.invariant.joined
      c.in_ok-wait_for.ensures.joined;
}
