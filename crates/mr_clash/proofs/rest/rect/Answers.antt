use Rattle.std.proofs.Common.{arith, ap, length}
use Rattle.mr_record.specs.Record.{rectangle_bytes}
use Rattle.mr_record.proofs.RecordFields.{length-rectangle_bytes}
use Rattle.mr_clash.proofs.rest.rect.Goals as goal

pub returns-then-bytes-ne16 : goal.returns-then-bytes-ne16
returns-then-bytes-ne16 c = λ r rest ordered fits is.
    let t = c.take-bytes.ensures (rectangle_bytes r) rest (length-rectangle_bytes r) is in
    let long = ap length t.0 in
    absurd (omega (arith, long, length-rectangle_bytes r))

pub returns : goal.returns
returns c = λ r rest ordered fits is.
    let t = c.take-bytes.ensures (rectangle_bytes r) rest (length-rectangle_bytes r) is in
    (c.rect_of_bytes.ensures.read r ordered fits t.0, t.1)
