use Rattle.std.proofs.Common.{rules}
use Rattle.std.proofs.lemmas.Fn.{filter_same}
use Rattle.mr_geom.specs.Plane.{touches}
use Rattle.mr_record.specs.declared.record.Record.{Record}
use Rattle.mr_query.proofs.selection.reached.Goals as goal

pub returns : goal.returns
returns c =
    filter_same _ (λ (r : Record). touches c.args.window.now r.rect) _ (λ r b f k. search rules) _ _
    c.retain.ensures.filtered
