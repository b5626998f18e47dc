use Rattle.mr_batch.specs.declared.change.Change.TheVariants.{Add}
use Rattle.mr_edit.specs.Changing.{CanChange}
use Rattle.mr_edit.proofs.Admitted.{add_insert}
use Rattle.mr_edit.proofs.Sound.{never, handed}
use Rattle.mr_edit.proofs.Turns.{change_added}
use Rattle.mr_edit.proofs.replaying.add.Goals as goal

pub returns-clause-changes : goal.returns-clause-changes
returns-clause-changes g c =
    change_added g.F.PageFile.scheme (g.F.PageFile.told c.args.pager.now.file)
    (g.F.PageFile.told c.insert.new.pager.file) c.args.pager.now.free c.insert.new.pager.free c.args.root
    c.in_ok-child.child c.args.dir.now c.put.new.self c.args.one.now c.is_record.ensures c.in_ok-child.ensures.inserts
    c.in_ok-put.ensures.put c.in_ok-put.ensures.counted

pub returns-in_err-child-clause-blames_none_told : goal.returns-in_err-child-clause-blames_none_told
returns-in_err-child-clause-blames_none_told g c =
    let scheme = g.F.PageFile.scheme in
    let told = g.F.PageFile.told c.args.pager.now.file in
    handed c.from_residual.result c.in_err-child.field-0.0
    (CanChange scheme told c.args.pager.now.free c.args.root c.args.dir.now (Add c.args.one.now))
    c.from_residual.ensures.1
    (never c.in_err-child.field-0.0 _ _
    (add_insert scheme told c.args.pager.now.free c.args.root c.args.dir.now c.args.one.now)
    c.in_err-child.ensures.blames_none_told)
