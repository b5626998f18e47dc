use Rattle.std.proofs.Common.{sym}
use Rattle.mr_query.proofs.Parts.{four_parts}
use Rattle.mr_query.proofs.word.read_nearest_parts.Goals as goal

pub returns-in-Ok : goal.returns-in-Ok
returns-in-Ok c =
    rw (c.in_ok-x.ensures, c.in_ok-y.ensures, c.in-Ok.ensures)
    (sym (four_parts c.in_ok-x.x.now c.in_ok-y.y.now c.in-Ok.field-0.0.now c.in-Ok.field-0.1.now))
