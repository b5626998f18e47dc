use Rattle.std.proofs.Common.{append_assoc}
use Rattle.mr_record.specs.RecordText.{line_of}
use Rattle.mr_record.proofs.print.put_line.Goals as goal

pub returns-clause-put : goal.returns-clause-put
unfolding line_of
returns-clause-put g c =
    rw (
      c.put-2.ensures,
      c.put_payload.ensures.put,
      c.put_layer.ensures.put,
      c.put_rect.ensures.put,
      c.put.ensures,
      c.put_number.ensures.put,
    )
    (simp append_assoc)
