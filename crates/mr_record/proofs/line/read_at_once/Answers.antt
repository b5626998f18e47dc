use Rattle.std.proofs.Common.{sym, ◌∙◌}
use Rattle.mr_record.proofs.Fronts.{record_in_front}
use Rattle.mr_record.proofs.line.read_at_once.Goals as goal

pub returns : goal.returns
returns c =
    record_in_front c.args.version c.args.line.now c.in_ok-number.rest.now c.in_ok-x0.rest.now c.in_ok-x1.rest.now
    c.in_ok-layer.last.now c.in_ok-number.number c.in_ok-x0.x0 c.in_ok-x0.y0 c.in_ok-x1.x1 c.in_ok-x1.y1
    c.in_ok-layer.layer c.in_ok-rect.rect c.in_ok-payload.payload c.in_ok-number.ensures c.in_ok-x0.ensures
    c.in_ok-x1.ensures c.in_ok-layer.ensures (sym c.new.ensures.exact ∙ c.in_ok-rect.was) (sym c.in_ok-payload.ensures)
