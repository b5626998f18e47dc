use Rattle.std.proofs.Common.{sym, ◌∙◌}
use Rattle.std.specs.Prelude.{Some}
use Rattle.mr_pages.proofs.Rules.{same_rect_is}
use Rattle.mr_edit.proofs.Results.{some_same}
use Rattle.mr_edit.proofs.removing.may_hold.Goals as goal

pub returns-clause-inside : goal.returns-clause-inside
returns-clause-inside c = λ same.
    sym c.union.ensures.value
    ∙ some_same c.union.result c.args.child.now.rect
    (same_rect_is (Some c.union.result) (Some c.args.child.now.rect) (sym c.eq.ensures ∙ same))
