use Rattle.std.proofs.Common.{◌∙◌, ap}
use Rattle.std.specs.Prelude.{bit_or}
use Rattle.mr_tree.proofs.Told.{layers_more}
use Rattle.mr_tree.proofs.node_hasher.layers_of.Goals as goal

pub loop-one-preserved : goal.loop-one-preserved
loop-one-preserved c =
    ap (λ m. bit_or c.loop-one.all m) c.layer_bit-all.ensures
    ∙ layers_more c.args.version c.args.records.now c.loop-one.one-index c.loop-one.all c.one-item.result
    c.loop-one-test.true c.one-item.is c.loop-one.invariant
