use Rattle.std.proofs.Common.{true, refl, sym, subst, ◌∙◌}
use Rattle.std.specs.Prelude.{All, IfSome}
use Rattle.mr_edit.specs.declared.removal.Removal.{Removal}
use Rattle.mr_edit.specs.Held.{IsTold}
use Rattle.mr_edit.specs.Outcome.{IsLow}
use Rattle.std.proofs.lemmas.Result.{IfOk-weaker}
use Rattle.mr_record.specs.Record.{HasLayer}
use Rattle.mr_record.specs.declared.record.Record.{Record}
use Rattle.mr_edit.specs.private.Removal.{SearchesSubtree}
use Rattle.mr_edit.specs.Deleted.{DeletesRecord}
use Rattle.mr_edit.specs.private.Removable.{CanDelete}
use Rattle.mr_edit.proofs.Deletable.{no_root, root_sought, none_lacks, left_inserts}
use Rattle.mr_edit.proofs.Dropped.{deleted}
use Rattle.mr_edit.proofs.Results.{if_err}
use Rattle.mr_edit.proofs.Shown.{layers_sorted}
use Rattle.mr_edit.proofs.Sound.{never, handed}
use Rattle.mr_edit.proofs.ChangeReads.{deletes_none, deletes_stopped, deletes_twice}
use Rattle.mr_edit.proofs.deleting.delete.Goals as goal

pub returns-clause-deletes : goal.returns-clause-deletes
returns-clause-deletes g c =
    let l = c.in-Some-found.left in
    IfOk-weaker c.put_all.result _ _
    (λ r h. subst (λ x. DeletesRecord g.F.PageFile.scheme (g.F.PageFile.told c.args.pager.now.file)
    c.args.pager.now.free x
    (g.F.PageFile.told c.put_all.new.pager.file) c.put_all.new.pager.free r c.args.number c.args.rect.now)
    (sym c.in-Some.is)
    (deleted g.F.PageFile.scheme (g.F.PageFile.told c.args.pager.now.file)
    (g.F.PageFile.told c.take_below.new.pager.file) (g.F.PageFile.told c.put_all.new.pager.file) c.args.pager.now.free
    c.take_below.new.pager.free c.put_all.new.pager.free
    c.in-Some.child c.args.number c.args.rect.now l.entry r l.aside.items c.deref.result.now
    (subst (SearchesSubtree g.F.PageFile.scheme true (g.F.PageFile.told c.args.pager.now.file) c.args.pager.now.free
    (g.F.PageFile.told c.take_below.new.pager.file) c.take_below.new.pager.free c.in-Some.child c.args.number
    c.args.rect.now) c.in-Some-found.is c.in_ok-found.ensures.searches)
    (c.deref.ensures.value ∙ c.in_ok-sort_by_number.ensures) h))
    c.put_all.ensures.inserts

pub returns-in_default-clause-blames_none_told : goal.returns-in_default-clause-blames_none_told
returns-in_default-clause-blames_none_told g c = λ k.
    no_root g.F.PageFile.scheme (g.F.PageFile.told c.args.pager.now.file) c.args.pager.now.free c.args.number
    c.args.rect.now (subst (λ x. CanDelete g.F.PageFile.scheme (g.F.PageFile.told c.args.pager.now.file)
    c.args.pager.now.free x c.args.number c.args.rect.now) c.in_default.is k)

pub returns-in_err-found-clause-blames_none_told : goal.returns-in_err-found-clause-blames_none_told
returns-in_err-found-clause-blames_none_told g c =
    handed c.from_residual.result c.in_err-found.field-0.0
    (CanDelete g.F.PageFile.scheme (g.F.PageFile.told c.args.pager.now.file) c.args.pager.now.free c.args.root
    c.args.number c.args.rect.now) c.from_residual.ensures.1
    (never c.in_err-found.field-0.0 _ _
    (λ k. root_sought g.F.PageFile.scheme (g.F.PageFile.told c.args.pager.now.file) c.args.pager.now.free
    c.in-Some.child c.args.number c.args.rect.now
    (subst (λ x. CanDelete g.F.PageFile.scheme (g.F.PageFile.told c.args.pager.now.file)
    c.args.pager.now.free x c.args.number c.args.rect.now) c.in-Some.is k)) c.in_err-found.ensures.blames_none_told)

pub returns-in_default-found-clause-blames_none_told : goal.returns-in_default-found-clause-blames_none_told
returns-in_default-found-clause-blames_none_told g c = λ k.
    let s = subst (SearchesSubtree g.F.PageFile.scheme true (g.F.PageFile.told c.args.pager.now.file)
    c.args.pager.now.free (g.F.PageFile.told c.take_below.new.pager.file) c.take_below.new.pager.free c.in-Some.child
    c.args.number c.args.rect.now) c.in_default-found.is c.in_ok-found.ensures.searches in
    none_lacks g.F.PageFile.scheme (g.F.PageFile.told c.args.pager.now.file) c.args.pager.now.free c.in-Some.child
    c.args.number c.args.rect.now s.2 (subst (λ x. CanDelete g.F.PageFile.scheme
    (g.F.PageFile.told c.args.pager.now.file) c.args.pager.now.free x c.args.number c.args.rect.now) c.in-Some.is k)

pub returns-clause-blames_none_told : goal.returns-clause-blames_none_told
returns-clause-blames_none_told g c =
    let l = c.in-Some-found.left in
    if_err c.put_all.result _ _
    (λ e h. never e _ _
    (λ k. left_inserts g.F.PageFile.scheme (g.F.PageFile.told c.args.pager.now.file)
    (g.F.PageFile.told c.take_below.new.pager.file) c.args.pager.now.free c.take_below.new.pager.free c.in-Some.child
    c.args.number c.args.rect.now l.entry l.aside.items c.deref.result.now
    (subst (SearchesSubtree g.F.PageFile.scheme true (g.F.PageFile.told c.args.pager.now.file) c.args.pager.now.free
    (g.F.PageFile.told c.take_below.new.pager.file) c.take_below.new.pager.free c.in-Some.child c.args.number
    c.args.rect.now) c.in-Some-found.is c.in_ok-found.ensures.searches)
    (c.deref.ensures.value ∙ c.in_ok-sort_by_number.ensures)
    (subst (λ x. CanDelete g.F.PageFile.scheme (g.F.PageFile.told c.args.pager.now.file)
    c.args.pager.now.free x c.args.number c.args.rect.now) c.in-Some.is k)) h)
    c.put_all.ensures.blames_none_told

pub returns-in_default-clause-twice : goal.returns-in_default-clause-twice
returns-in_default-clause-twice g c =
    deletes_none g.F.PageFile.scheme (g.F.PageFile.told c.args.pager.now.file) c.args.pager.now.free c.args.root
    c.args.number c.args.rect.now (g.F.PageFile.reads c.args.pager.now.file) (g.F.PageFile.reads c.args.pager.now.file)
    refl

pub returns-in_err-found-clause-twice : goal.returns-in_err-found-clause-twice
returns-in_err-found-clause-twice g c =
    deletes_stopped g.F.PageFile.scheme (g.F.PageFile.told c.args.pager.now.file) c.args.pager.now.free
    c.args.root c.in-Some.child c.args.number c.args.rect.now (g.F.PageFile.reads c.args.pager.now.file)
    (g.F.PageFile.reads c.take_below.new.pager.file) c.in-Some.is c.take_below.ensures.twice

pub returns-in_default-found-clause-twice : goal.returns-in_default-found-clause-twice
returns-in_default-found-clause-twice g c =
    deletes_stopped g.F.PageFile.scheme (g.F.PageFile.told c.args.pager.now.file) c.args.pager.now.free
    c.args.root c.in-Some.child c.args.number c.args.rect.now (g.F.PageFile.reads c.args.pager.now.file)
    (g.F.PageFile.reads c.take_below.new.pager.file) c.in-Some.is c.take_below.ensures.twice

pub returns-in_err-sort_by_number-clause-twice : goal.returns-in_err-sort_by_number-clause-twice
returns-in_err-sort_by_number-clause-twice g c =
    deletes_stopped g.F.PageFile.scheme (g.F.PageFile.told c.args.pager.now.file) c.args.pager.now.free
    c.args.root c.in-Some.child c.args.number c.args.rect.now (g.F.PageFile.reads c.args.pager.now.file)
    (g.F.PageFile.reads c.take_below.new.pager.file) c.in-Some.is c.take_below.ensures.twice

pub returns-clause-twice : goal.returns-clause-twice
returns-clause-twice g c =
    let l = c.in-Some-found.left in
    deletes_twice g.F.PageFile.scheme (g.F.PageFile.told c.args.pager.now.file)
    (g.F.PageFile.told c.take_below.new.pager.file) c.args.pager.now.free c.take_below.new.pager.free c.args.root
    c.in-Some.child c.args.number c.args.rect.now l.entry l.aside.items c.deref.result.now
    (g.F.PageFile.reads c.args.pager.now.file) (g.F.PageFile.reads c.take_below.new.pager.file)
    (g.F.PageFile.reads c.put_all.new.pager.file) c.in-Some.is
    (subst (SearchesSubtree g.F.PageFile.scheme true (g.F.PageFile.told c.args.pager.now.file) c.args.pager.now.free
    (g.F.PageFile.told c.take_below.new.pager.file) c.take_below.new.pager.free c.in-Some.child c.args.number
    c.args.rect.now) c.in-Some-found.is c.in_ok-found.ensures.searches)
    (c.deref.ensures.value ∙ c.in_ok-sort_by_number.ensures) c.take_below.ensures.twice c.put_all.ensures.reads

pub put_all-requires : goal.put_all-requires
put_all-requires g c =
    layers_sorted g.F.PageFile.scheme.version (λ (r : Record). r.number) c.in-Some-found.left.aside.items
    c.deref.result.now
    (c.deref.ensures.value ∙ c.in_ok-sort_by_number.ensures)
    (subst (λ o. IfSome o (λ (l : Removal). All (HasLayer g.F.PageFile.scheme.version) l.aside.items))
    c.in-Some-found.is
    c.in_ok-found.ensures.layers)

pub returns-clause-told : goal.returns-clause-told
returns-clause-told g c =
    IfOk-weaker c.put_all.result _ _
    (λ r h. h (subst (λ o. IfSome o (λ (l : Removal). IfSome l.entry (IsTold g.F.PageFile.scheme.version)))
    c.in-Some-found.is
    c.in_ok-found.ensures.told)) c.put_all.ensures.told

pub returns-clause-low : goal.returns-clause-low
returns-clause-low g c =
    IfOk-weaker c.put_all.result _ _
    (λ r h. h (subst (λ o. IfSome o (λ (l : Removal). IsLow l.entry)) c.in-Some-found.is c.in_ok-found.ensures.low))
    c.put_all.ensures.low
