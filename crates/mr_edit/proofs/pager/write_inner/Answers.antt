use Rattle.std.proofs.Common.{◌≡◌, ap, arith}
use Rattle.mr_tree.specs.View as view
use Rattle.mr_edit.specs.Held.{counted}
use Rattle.mr_edit.proofs.Sums.{inner_said}
use Rattle.mr_edit.proofs.pager.write_inner.Goals as goal

pub returns-clause-told : goal.returns-clause-told
returns-clause-told g c =
    let same : view.count_over c.version.result c.set_inner.new.self ≡ counted c.args.children.now =
    ap (view.count_over c.version.result) c.set_inner.ensures in
    inner_said g.F.PageFile.scheme c.set_inner.new.self c.args.children.now c.entry-child.result c.args.page
    c.set_inner.ensures c.requires.some c.requires.told
    (omega (arith, same, c.count.ensures, c.if-count-gt-COUNT_LIMIT.false)) c.entry-child.ensures
