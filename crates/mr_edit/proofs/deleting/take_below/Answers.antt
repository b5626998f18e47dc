use Rattle.std.proofs.Common.{true}
use Rattle.mr_edit.specs.private.Removable.{CanTakeOut}
use Rattle.mr_edit.proofs.Alike.{alike_never, alike_cause}
use Rattle.mr_edit.proofs.deleting.take_below.Goals as goal

pub returns-in-Err-clause-blames_none_told : goal.returns-in-Err-clause-blames_none_told
returns-in-Err-clause-blames_none_told g c =
    alike_never c.in-Err.error c.at_root.result (CanTakeOut g.F.PageFile.scheme true
    (g.F.PageFile.told c.args.pager.now.file) c.args.pager.now.free c.args.child.now c.args.number c.args.rect.now)
    c.at_root.ensures.same c.in-Err.ensures.blames_none_told

pub returns-in-Err-clause-cause : goal.returns-in-Err-clause-cause
returns-in-Err-clause-cause g c =
    alike_cause (g.F.PageFile.faults c.args.pager.now.file) (g.F.PageFile.faults c.take_out.new.pager.file)
    c.in-Err.error c.at_root.result c.at_root.ensures.same c.in-Err.ensures.cause
