use Rattle.std.proofs.Common.{arith}
use Rattle.mr_here.proofs.Layered.{any_here, any_on, any_none}
use Rattle.mr_here.proofs.layers.any_layer.Goals as goal

pub returns-then-adds_layer : goal.returns-then-adds_layer
returns-then-adds_layer c =
    any_here c.args.batch.now.list c.loop-i.i c.change.result.now (omega arith) c.change.ensures c.adds_layer.ensures
    c.loop-i.invariant c.if-adds_layer.true

pub loop-i-preserved : goal.loop-i-preserved
loop-i-preserved c =
    any_on c.args.batch.now.list c.loop-i.i c.change.result.now (omega arith) c.change.ensures c.adds_layer.ensures
    c.loop-i.invariant c.if-adds_layer.false

pub returns : goal.returns
returns c = any_none c.args.batch.now.list c.loop-i.i (omega arith) c.loop-i.invariant
