use Rattle.std.proofs.Common.{refl, sym, subst, ◌∙◌}
use Rattle.mr_batch.specs.declared.change.Change.TheVariants.{Remove}
use Rattle.mr_edit.specs.Changing.{CanChange}
use Rattle.mr_edit.specs.private.Removable.{CanDelete}
use Rattle.mr_edit.proofs.Admitted.{lists_number, remove_delete, remove_known}
use Rattle.mr_edit.proofs.Dropped.{deletes_then}
use Rattle.mr_edit.proofs.Sound.{never, handed}
use Rattle.mr_edit.proofs.Turns.{change_removed}
use Rattle.mr_edit.proofs.ChangeReads.{within_learned, within_none, within_removed}
use Rattle.mr_edit.proofs.replaying.remove.Goals as goal

pub returns-clause-changes : goal.returns-clause-changes
returns-clause-changes g c =
    let told = g.F.PageFile.told c.args.pager.now.file in
    let then = g.F.PageFile.told c.learn_once.new.pager.file in
    change_removed g.F.PageFile.scheme told
    (g.F.PageFile.told c.delete.new.pager.file) c.args.pager.now.free c.delete.new.pager.free c.args.root
    c.in_ok-root.root
    c.args.dir.now c.take.new.self c.args.number c.in-Some.rect c.take.result (sym c.rect.ensures ∙ c.in-Some.is)
    c.take.ensures.value
    (deletes_then g.F.PageFile.scheme told then (g.F.PageFile.told c.delete.new.pager.file)
    c.args.pager.now.free c.learn_once.new.pager.free c.delete.new.pager.free c.args.root c.in_ok-root.root
    c.args.number
    c.in-Some.rect c.learn_once.ensures.same c.learn_once.ensures.free c.in_ok-root.ensures.deletes)
    c.take.ensures.taken c.take.ensures.counted

pub returns-in_default-clause-blames_none_told : goal.returns-in_default-clause-blames_none_told
returns-in_default-clause-blames_none_told g c =
    lists_number g.F.PageFile.scheme (g.F.PageFile.told c.args.pager.now.file) c.args.pager.now.free c.args.root
    c.args.dir.now c.args.number (sym c.rect.ensures ∙ c.in_default.is)

pub returns-in_err-learn_once-clause-blames_none_told : goal.returns-in_err-learn_once-clause-blames_none_told
returns-in_err-learn_once-clause-blames_none_told g c =
    let scheme = g.F.PageFile.scheme in
    let told = g.F.PageFile.told c.args.pager.now.file in
    handed c.from_residual.result c.in_err-learn_once.field-0.0
    (CanChange scheme told c.args.pager.now.free c.args.root c.args.dir.now (Remove c.args.number))
    c.from_residual.ensures.1
    (never c.in_err-learn_once.field-0.0 _ _
    (remove_known scheme told c.args.pager.now.free c.args.root c.args.dir.now c.args.number c.in-Some.rect
    (sym c.rect.ensures ∙ c.in-Some.is)) c.in_err-learn_once.ensures.blames_none_told)

pub returns-in_err-root-clause-blames_none_told : goal.returns-in_err-root-clause-blames_none_told
returns-in_err-root-clause-blames_none_told g c =
    let scheme = g.F.PageFile.scheme in
    let told = g.F.PageFile.told c.args.pager.now.file in
    handed c.from_residual-in_err-root.result c.in_err-root.field-0.0
    (CanChange scheme told c.args.pager.now.free c.args.root c.args.dir.now (Remove c.args.number))
    c.from_residual-in_err-root.ensures.1
    (never c.in_err-root.field-0.0 _ _
    (λ k. subst (λ o. CanDelete scheme o c.learn_once.new.pager.free c.args.root c.args.number c.in-Some.rect)
    (sym c.learn_once.ensures.same)
    (subst (λ f. CanDelete scheme told f c.args.root c.args.number c.in-Some.rect) (sym c.learn_once.ensures.free)
    (remove_delete scheme told c.args.pager.now.free c.args.root c.args.dir.now c.args.number c.in-Some.rect
    (sym c.rect.ensures ∙ c.in-Some.is) k))) c.in_err-root.ensures.blames_none_told)

pub returns-in_default-clause-within : goal.returns-in_default-clause-within
returns-in_default-clause-within g c =
    within_none g.F.PageFile.scheme (g.F.PageFile.told c.args.pager.now.file) c.args.pager.now.free c.args.root
    c.args.dir.now c.args.number c.args.learned.now c.args.learned.now (g.F.PageFile.reads c.args.pager.now.file)
    (g.F.PageFile.reads c.args.pager.now.file) refl refl

pub returns-in_err-learn_once-clause-within : goal.returns-in_err-learn_once-clause-within
returns-in_err-learn_once-clause-within g c =
    within_learned g.F.PageFile.scheme (g.F.PageFile.told c.args.pager.now.file) c.args.pager.now.free
    c.args.root c.args.dir.now c.args.number c.args.learned.now c.learn_once.new.learned
    (g.F.PageFile.reads c.args.pager.now.file) (g.F.PageFile.reads c.learn_once.new.pager.file)
    c.learn_once.ensures.reads_at_most

pub returns-in_err-root-clause-within : goal.returns-in_err-root-clause-within
returns-in_err-root-clause-within g c =
    within_removed g.F.PageFile.scheme (g.F.PageFile.told c.args.pager.now.file)
    (g.F.PageFile.told c.learn_once.new.pager.file) c.args.pager.now.free c.learn_once.new.pager.free c.args.root
    c.args.dir.now c.args.number c.in-Some.rect c.args.learned.now c.learn_once.new.learned
    (g.F.PageFile.reads c.args.pager.now.file)
    (g.F.PageFile.reads c.learn_once.new.pager.file) (g.F.PageFile.reads c.delete.new.pager.file)
    (sym c.rect.ensures ∙ c.in-Some.is) c.learn_once.ensures.same c.learn_once.ensures.free
    c.learn_once.ensures.reads_at_most
    c.delete.ensures.twice

pub returns-clause-within : goal.returns-clause-within
returns-clause-within g c =
    within_removed g.F.PageFile.scheme (g.F.PageFile.told c.args.pager.now.file)
    (g.F.PageFile.told c.learn_once.new.pager.file) c.args.pager.now.free c.learn_once.new.pager.free c.args.root
    c.args.dir.now c.args.number c.in-Some.rect c.args.learned.now c.learn_once.new.learned
    (g.F.PageFile.reads c.args.pager.now.file)
    (g.F.PageFile.reads c.learn_once.new.pager.file) (g.F.PageFile.reads c.delete.new.pager.file)
    (sym c.rect.ensures ∙ c.in-Some.is) c.learn_once.ensures.same c.learn_once.ensures.free
    c.learn_once.ensures.reads_at_most
    c.delete.ensures.twice
