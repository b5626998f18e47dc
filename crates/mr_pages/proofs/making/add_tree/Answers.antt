use Rattle.std.proofs.Common.{◌++◌, subst}
use Rattle.mr_pages.specs.Making.{HasMade}
use Rattle.mr_pages.proofs.Written.{given_up, not_grown, has_grown}
use Rattle.mr_pages.proofs.making.add_tree.Goals as goal

pub returns-in_err-append-clause-made : goal.returns-in_err-append-clause-made
returns-in_err-append-clause-made g c = λ before held behind made is.
    let name = c.args.name.now in
    let now = g.S.Shelf.state c.args.shelf.now in
    let after = g.S.Shelf.state c.append.new.self in
    let e = c.in_err-append.field-0.0 in
    given_up c.from_residual-in_err-append.result _ e c.args.layout.size name before after
    c.from_residual-in_err-append.ensures.1
    (not_grown c.args.layout.size name held behind is before now made c.deref.result.now after e
    c.in_err-append.ensures.writes c.in_err-append.ensures.causes)

pub returns-clause-made : goal.returns-clause-made
returns-clause-made g c = λ before held behind made is.
    let name = c.args.name.now in
    let now = g.S.Shelf.state c.args.shelf.now in
    let after = g.S.Shelf.state c.append.new.self in
    subst (λ bs. HasMade name (held ++ bs) before after) c.deref.ensures.value
    (has_grown name held c.deref.result.now before now after made c.in_ok-append.ensures.writes.whole
    c.in_ok-append.ensures.causes.quiet c.in_ok-append.ensures.writes.reads)
