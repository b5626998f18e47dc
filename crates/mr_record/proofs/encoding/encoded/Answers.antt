use Rattle.std.proofs.Common.{append_assoc}
use Rattle.mr_record.specs.Record.{record_bytes}
use Rattle.mr_record.proofs.encoding.encoded.Goals as goal

pub returns-clause-bytes : goal.returns-clause-bytes
unfolding record_bytes
returns-clause-bytes c =
    rw (
      c.put-4.ensures,
      c.put-3.ensures,
      c.put_layer.ensures.put,
      c.put-2.ensures,
      c.put.ensures,
      c.new-bytes.ensures,
      c.bytes-payload.ensures.value,
      c.rect_bytes.ensures,
      c.to_be_bytes.ensures,
    ) (simp append_assoc)
