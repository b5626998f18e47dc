use Rattle.mr_pack.proofs.Leaves.{counted_none, counted_more}
use Rattle.mr_pack.proofs.joined.+leaf_count.Goals as goal

pub loop-child-init : goal.loop-child-init
loop-child-init t c =
    counted_none c.args.tree.now c.in-Inner.children c.as_slice-child-items.result.now c.as_slice-child-items.ensures
    c.in-Inner.is

pub loop-child-preserved : goal.loop-child-preserved
loop-child-preserved t c =
    counted_more c.loop-child.sum c.leaf_count-sum.result _ c.as_slice-child-items.result.now c.loop-child.child-index
    c.child-item.result c.loop-child.invariant c.leaf_count-sum.ensures c.child-item.is c.loop-child-test.true
