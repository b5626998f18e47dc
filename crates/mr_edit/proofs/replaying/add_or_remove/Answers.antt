use Rattle.std.proofs.Common.{IfOk, refl, sym, subst}
use Rattle.std.specs.Prelude.{IfErr}
use Rattle.mr_batch.specs.declared.change.Change.{Change}
use Rattle.mr_edit.specs.Changing.{CanChange}
use Rattle.mr_edit.specs.Outcome.{NeverMap}
use Rattle.mr_edit.specs.Replayed.{ChangesOne}
use Rattle.mr_edit.specs.Counted.{ChangesWithin}
use Rattle.mr_edit.proofs.ChangeReads.{within_added}
use Rattle.mr_edit.proofs.replaying.add_or_remove.Goals as goal

pub returns-in-Add-clause-changes : goal.returns-in-Add-clause-changes
returns-in-Add-clause-changes g c =
    subst (λ (x : Change). IfOk c.add.result (λ r. ChangesOne g.F.PageFile.scheme
    (g.F.PageFile.told c.args.pager.now.file) c.args.pager.now.free c.args.root c.args.dir.now
    (g.F.PageFile.told c.add.new.pager.file) c.add.new.pager.free r c.add.new.dir x)) (sym c.in-Add.is)
    c.add.ensures.changes

pub returns-in-Remove-clause-changes : goal.returns-in-Remove-clause-changes
returns-in-Remove-clause-changes g c =
    subst (λ (x : Change). IfOk c.remove.result (λ r. ChangesOne g.F.PageFile.scheme
    (g.F.PageFile.told c.args.pager.now.file) c.args.pager.now.free c.args.root c.args.dir.now
    (g.F.PageFile.told c.remove.new.pager.file) c.remove.new.pager.free r c.remove.new.dir x)) (sym c.in-Remove.is)
    c.remove.ensures.changes

pub returns-in-Add-clause-blames_none_told : goal.returns-in-Add-clause-blames_none_told
returns-in-Add-clause-blames_none_told g c =
    subst (λ (x : Change). IfErr c.add.result (λ e. NeverMap e (CanChange g.F.PageFile.scheme
    (g.F.PageFile.told c.args.pager.now.file) c.args.pager.now.free c.args.root c.args.dir.now x))) (sym c.in-Add.is)
    c.add.ensures.blames_none_told

pub returns-in-Remove-clause-blames_none_told : goal.returns-in-Remove-clause-blames_none_told
returns-in-Remove-clause-blames_none_told g c =
    subst (λ (x : Change). IfErr c.remove.result (λ e. NeverMap e (CanChange g.F.PageFile.scheme
    (g.F.PageFile.told c.args.pager.now.file) c.args.pager.now.free c.args.root c.args.dir.now x))) (sym c.in-Remove.is)
    c.remove.ensures.blames_none_told

pub returns-in-Add-clause-within : goal.returns-in-Add-clause-within
returns-in-Add-clause-within g c =
    subst (λ (x : Change). ChangesWithin g.F.PageFile.scheme (g.F.PageFile.told c.args.pager.now.file)
    c.args.pager.now.free c.args.root c.args.dir.now x c.args.learned.now c.args.learned.now
    (g.F.PageFile.reads c.args.pager.now.file) (g.F.PageFile.reads c.add.new.pager.file)) (sym c.in-Add.is)
    (within_added g.F.PageFile.scheme (g.F.PageFile.told c.args.pager.now.file) c.args.pager.now.free c.args.root
    c.args.dir.now c.in-Add.one c.args.learned.now c.args.learned.now (g.F.PageFile.reads c.args.pager.now.file)
    (g.F.PageFile.reads c.add.new.pager.file) refl c.add.ensures.reads)

pub returns-in-Remove-clause-within : goal.returns-in-Remove-clause-within
returns-in-Remove-clause-within g c =
    subst (λ (x : Change). ChangesWithin g.F.PageFile.scheme (g.F.PageFile.told c.args.pager.now.file)
    c.args.pager.now.free c.args.root c.args.dir.now x c.args.learned.now c.remove.new.learned
    (g.F.PageFile.reads c.args.pager.now.file) (g.F.PageFile.reads c.remove.new.pager.file)) (sym c.in-Remove.is)
    c.remove.ensures.within
