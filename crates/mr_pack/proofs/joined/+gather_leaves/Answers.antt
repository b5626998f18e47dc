use Rattle.std.proofs.Common.{arith}
use Rattle.mr_pack.proofs.Leaves.{gathered_more, gathered_all}
use Rattle.mr_pack.proofs.joined.+gather_leaves.Goals as goal

pub loop-child-preserved : goal.loop-child-preserved
loop-child-preserved t c =
    gathered_more _ _ _ c.as_slice-child-items.result.now c.loop-child.child-index c.child-item.result
    c.loop-child.invariant c.in_ok-gather_leaves-in-Inner.ensures c.child-item.is c.loop-child-test.true

pub returns-after-loop-child : goal.returns-after-loop-child
returns-after-loop-child t c =
    gathered_all _ _ c.args.tree.now c.in-Inner.children c.as_slice-child-items.result.now c.loop-child.child-index
    c.loop-child.invariant (omega arith) c.as_slice-child-items.ensures c.in-Inner.is
