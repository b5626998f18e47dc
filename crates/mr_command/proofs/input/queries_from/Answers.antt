use Rattle.std.proofs.Common.{sym, ap, subst, ◌∙◌}
use Rattle.mr_record.specs.Answer.{RefusesText}
use Rattle.mr_query.specs.Script.{queries_of_text}
use Rattle.mr_command.specs.private.Inputs.{ReadsText}
use Rattle.mr_command.proofs.Going.{halted_is}
use Rattle.mr_command.proofs.Inputs.{text_read, text_refused, text_unread}
use Rattle.mr_command.proofs.input.queries_from.Goals as goal

pub returns-in_err-text-clause-reads : goal.returns-in_err-text-clause-reads
returns-in_err-text-clause-reads g c =
    let before = g.S.Shelf.state c.args.shelf.now in
    let after = g.S.Shelf.state c.needed.new.shelf in
    let came = c.in_err-text.field-0.0 in
    subst (ReadsText queries_of_text c.args.name.now before after)
    (sym (halted_is c.from_residual.result came c.from_residual.ensures.1))
    (text_unread queries_of_text c.args.name.now before after came c.in_err-text.ensures)

pub returns-in-Ok-clause-reads : goal.returns-in-Ok-clause-reads
returns-in-Ok-clause-reads g c =
    text_read queries_of_text c.args.name.now (g.S.Shelf.state c.args.shelf.now)
    (g.S.Shelf.state c.needed.new.shelf) c.in_ok-text.text c.in_ok-text.ensures c.in-Ok.queries
    (sym (ap queries_of_text c.deref.ensures.value) ∙ c.in-Ok.ensures.exact)

pub returns-clause-reads : goal.returns-clause-reads
returns-clause-reads g c =
    text_refused queries_of_text c.args.name.now (g.S.Shelf.state c.args.shelf.now)
    (g.S.Shelf.state c.needed.new.shelf) c.in_ok-text.text c.in_ok-text.ensures c.in-Err.error c.bad_text.result
    (subst (RefusesText c.in-Err.error) (ap queries_of_text c.deref.ensures.value) c.in-Err.ensures.exact)
    c.bad_text.ensures
