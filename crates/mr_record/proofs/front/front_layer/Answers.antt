use Rattle.std.proofs.Common.{arith}
use Rattle.mr_record.proofs.Fronts.{layer_in_front}
use Rattle.mr_record.proofs.front.front_layer.Goals as goal

pub returns : goal.returns
returns c =
    layer_in_front c.args.line.now c.in_ok-number.rest.now c.in_ok-number.number c.in_ok-number.ensures (omega arith)
