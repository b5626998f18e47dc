use Rattle.std.proofs.Common.{◌<◌, ◌∙◌, ap, arith, get_or}
use Rattle.mr_record.specs.RecordField.{record_in}
use Rattle.mr_record.proofs.RecordFields.{record_again, read_written, read_sized}
use Rattle.mr_record.proofs.encoding.read_record_of.Goals as goal

pub returns-clause-written : goal.returns-clause-written
returns-clause-written c =
    read_written c.args.version c.args.bytes.now c.read_fields.result
    (λ i. let fits : get_or c.args.bytes.now i 0 < 256 = omega (arith, c.type_inv.bytes i) in fits)
    c.read_fields.ensures

pub returns-clause-sized : goal.returns-clause-sized
returns-clause-sized c =
    read_sized c.args.version c.args.bytes.now c.read_fields.result
    (λ i. let fits : get_or c.args.bytes.now i 0 < 256 = omega (arith, c.type_inv.bytes i) in fits)
    c.read_fields.ensures

pub returns-clause-read : goal.returns-clause-read
returns-clause-read c =
    λ r rest is low e. c.read_fields.ensures ∙ ap (record_in c.args.version) e
    ∙ record_again c.args.version r rest is low
