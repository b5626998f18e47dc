use Rattle.std.proofs.Common.{◌≡◌, ◌<◌, ap, length, arith}
use Rattle.std.specs.BinaryHeap.{heap_items, heap_len}
use Rattle.mr_prove.proofs.Least.{radius_from_peek}
use Rattle.mr_prove.proofs.best.radius_of.Goals as goal

pub returns-clause-radius : goal.returns-clause-radius
returns-clause-radius c =
    let same : length (heap_items c.args.best.now) ≡ c.args.k =
    omega (arith, ap length c.as_slice.ensures.value, c.requires.best.few) in
    let some : 0 < heap_len c.args.best.now = omega (arith, c.as_slice.ensures.len, c.requires.some) in
    radius_from_peek c.args.k (heap_items c.args.best.now) c.peek.result c.copied.result c.copied.ensures
    c.requires.some same c.requires.best.heap (c.peek.ensures.variant.1 some) c.peek.ensures.lookup
    c.peek.ensures.greatest
