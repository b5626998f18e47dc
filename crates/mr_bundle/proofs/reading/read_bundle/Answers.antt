use Rattle.std.proofs.Common.{arith}
use Rattle.mr_bundle.proofs.Bundles.{answer_front, answer_read, answer_written}
use Rattle.mr_bundle.proofs.reading.read_bundle.Goals as goal

pub returns-clause-written : goal.returns-clause-written
returns-clause-written c =
    answer_written c.args.bytes.now c.args.queries c.cut_parts.result
    (λ i. omega (arith, c.type_inv.bytes i)) c.cut_parts.ensures.list c.cut_parts.ensures.broken

pub returns-clause-read : goal.returns-clause-read
returns-clause-read c =
    answer_read c.args.bytes.now c.args.queries c.cut_parts.result c.cut_parts.ensures.list c.cut_parts.ensures.broken

pub returns-clause-front : goal.returns-clause-front
returns-clause-front c =
    answer_front c.args.bytes.now c.args.queries c.cut_parts.result (λ i. omega (arith, c.type_inv.bytes i))
    c.cut_parts.ensures.list c.cut_parts.ensures.broken
