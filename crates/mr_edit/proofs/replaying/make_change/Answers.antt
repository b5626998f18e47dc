use Rattle.std.proofs.Common.{subst}
use Rattle.mr_edit.specs.Changing.{CanChange}
use Rattle.mr_edit.specs.Outcome.{IsOfRoot}
use Rattle.mr_edit.proofs.Alike.{alike_never, alike_cause}
use Rattle.mr_edit.proofs.replaying.make_change.Goals as goal

pub returns-in-Err-clause-page : goal.returns-in-Err-clause-page
returns-in-Err-clause-page g c =
    subst (λ p. IsOfRoot p c.at_root.result) c.page_of-page.ensures c.at_root.ensures.page

pub returns-in-Err-clause-blames_none_told : goal.returns-in-Err-clause-blames_none_told
returns-in-Err-clause-blames_none_told g c =
    alike_never c.in-Err.error c.at_root.result (CanChange g.F.PageFile.scheme
    (g.F.PageFile.told c.args.pager.now.file) c.args.pager.now.free c.args.root c.args.dir.now c.args.change.now)
    c.at_root.ensures.same c.in-Err.ensures.blames_none_told

pub returns-in-Err-clause-cause : goal.returns-in-Err-clause-cause
returns-in-Err-clause-cause g c =
    alike_cause (g.F.PageFile.faults c.args.pager.now.file) (g.F.PageFile.faults c.add_or_remove.new.pager.file)
    c.in-Err.error c.at_root.result c.at_root.ensures.same c.in-Err.ensures.cause
