use Rattle.std.proofs.Common.{Some, None, sym, subst}
use Rattle.std.specs.Prelude.{IfOk, IfErr}
use Rattle.std.proofs.lemmas.Result.{IfErr-weaker}
use Rattle.mr_edit.specs.Drafted.{InsertsRecord}
use Rattle.mr_edit.specs.Growing.{CanInsert}
use Rattle.mr_edit.specs.Outcome.{IsOfRoot, root_page}
use Rattle.mr_edit.proofs.Alike.{alike_never, alike_cause, of_no_root}
use Rattle.mr_edit.proofs.Growth.{at_root, first_add}
use Rattle.mr_edit.proofs.Sound.{never}
use Rattle.mr_edit.proofs.root.insert.Goals as goal

pub returns-in-None-clause-inserts : goal.returns-in-None-clause-inserts
returns-in-None-clause-inserts g c =
    subst (λ r. IfOk c.first_root.result (λ e. InsertsRecord g.F.PageFile.scheme (g.F.PageFile.told
    c.args.pager.now.file)
    c.args.pager.now.free r (g.F.PageFile.told c.first_root.new.pager.file) c.first_root.new.pager.free e
    c.args.one.now))
    (sym c.in-None.is) c.first_root.ensures.inserts

pub returns-in-Ok-clause-inserts : goal.returns-in-Ok-clause-inserts
returns-in-Ok-clause-inserts g c =
    subst (λ r. InsertsRecord g.F.PageFile.scheme (g.F.PageFile.told c.args.pager.now.file) c.args.pager.now.free r
    (g.F.PageFile.told c.put_below.new.pager.file) c.put_below.new.pager.free c.in-Ok.raised c.args.one.now)
    (sym c.in-Some.is) c.in-Ok.ensures.inserts

pub returns-in-None-clause-blames_none_told : goal.returns-in-None-clause-blames_none_told
returns-in-None-clause-blames_none_told g c =
    let scheme = g.F.PageFile.scheme in
    let told = g.F.PageFile.told c.args.pager.now.file in
    let free = c.args.pager.now.free in
    IfErr-weaker c.first_root.result _ _
    (λ e h. never e _ _ (λ k. first_add scheme told free
    (at_root scheme told free 1 c.args.root None c.in-None.is k)) h)
    c.first_root.ensures.blames_none_told

pub returns-in-None-clause-page : goal.returns-in-None-clause-page
returns-in-None-clause-page g c =
    subst (λ r. IfErr c.first_root.result (IsOfRoot (root_page r))) (sym c.in-None.is)
    (of_no_root c.first_root.result)

pub returns-in-Err-clause-blames_none_told : goal.returns-in-Err-clause-blames_none_told
returns-in-Err-clause-blames_none_told g c =
    let scheme = g.F.PageFile.scheme in
    let told = g.F.PageFile.told c.args.pager.now.file in
    let free = c.args.pager.now.free in
    never c.at_root.result _ _ (at_root scheme told free 1 c.args.root (Some c.in-Some.child) c.in-Some.is)
    (alike_never c.in-Err.error c.at_root.result (CanInsert scheme told free (Some c.in-Some.child) 1)
    c.at_root.ensures.same c.in-Err.ensures.blames_none_told)

pub returns-in-Err-clause-page : goal.returns-in-Err-clause-page
returns-in-Err-clause-page g c =
    subst (λ r. IsOfRoot (root_page r) c.at_root.result) (sym c.in-Some.is) c.at_root.ensures.page

pub returns-in-Err-clause-cause : goal.returns-in-Err-clause-cause
returns-in-Err-clause-cause g c =
    alike_cause (g.F.PageFile.faults c.args.pager.now.file) (g.F.PageFile.faults c.put_below.new.pager.file)
    c.in-Err.error c.at_root.result c.at_root.ensures.same c.in-Err.ensures.cause
