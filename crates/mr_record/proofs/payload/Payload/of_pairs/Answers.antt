use Rattle.std.proofs.Common.{◌/◌, length, arith}
use Rattle.mr_record.proofs.Padded.{IsPadded-behind}
use Rattle.mr_record.proofs.payload.Payload.of_pairs.Goals as goal

pub invariant_of-result : goal.invariant_of-result
invariant_of-result c =
    IsPadded-behind (length c.args.digits.now / 2) c.write_pairs_front.new.into (omega arith) (omega arith)
    c.write_pairs_front.ensures.behind
