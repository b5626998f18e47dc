use Rattle.std.proofs.Common.{sym}
use Rattle.mr_query.proofs.Parts.{five_parts}
use Rattle.mr_query.proofs.word.read_window_parts.Goals as goal

pub returns-in-Ok : goal.returns-in-Ok
returns-in-Ok c =
    rw (c.in_ok-x0.ensures, c.in_ok-y0.ensures, c.in_ok-x1.ensures, c.in-Ok.ensures)
    (sym (five_parts c.in_ok-x0.x0.now c.in_ok-y0.y0.now c.in_ok-x1.x1.now c.in-Ok.field-0.0.now c.in-Ok.field-0.1.now))
