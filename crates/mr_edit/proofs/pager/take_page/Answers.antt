use Rattle.std.proofs.lemmas.Result.{IfErr-weaker}
use Rattle.mr_edit.specs.Outcome.{CanTake}
use Rattle.mr_edit.proofs.Sound.{never, can_read, can_grow, handed}
use Rattle.mr_edit.proofs.Results.{if_both}
use Rattle.mr_edit.proofs.Taking.{free_taken, new_taken}
use Rattle.mr_edit.proofs.pager.take_page.Goals as goal

pub returns-then-pager-eq0-clause-takes : goal.returns-then-pager-eq0-clause-takes
returns-then-pager-eq0-clause-takes g c =
    if_both c.grow.result _ _ _
    (λ page put last. new_taken (g.F.PageFile.told c.args.pager.now.file) (g.F.PageFile.told c.grow.new.self)
    c.args.pager.now.free page c.if-pager-eq0.true put last)
    c.grow.ensures.told c.grow.ensures.last

pub returns-in_ok-pager-clause-takes : goal.returns-in_ok-pager-clause-takes
returns-in_ok-pager-clause-takes g c =
    free_taken (g.F.PageFile.told c.args.pager.now.file) (g.F.PageFile.told c.read_free.new.self) c.args.pager.now.free
    c.in_ok-pager.field-0
    c.if-pager-eq0.false c.in_ok-pager.ensures.same c.in_ok-pager.ensures.free

pub returns-in_err-pager-clause-blames_none_told : goal.returns-in_err-pager-clause-blames_none_told
returns-in_err-pager-clause-blames_none_told g c =
    handed c.from_residual.result c.in_err-pager.field-0.0 (CanTake (g.F.PageFile.told c.args.pager.now.file)
    c.args.pager.now.free) c.from_residual.ensures.1
    (never c.in_err-pager.field-0.0 _ _ (can_read (g.F.PageFile.told c.args.pager.now.file) c.args.pager.now.free
    c.if-pager-eq0.false) c.in_err-pager.ensures.blames_none_told)

pub returns-then-pager-eq0-clause-blames_none_told : goal.returns-then-pager-eq0-clause-blames_none_told
returns-then-pager-eq0-clause-blames_none_told g c =
    IfErr-weaker c.grow.result _ _ (λ e h. never e _ _ (can_grow (g.F.PageFile.told c.args.pager.now.file)
    c.args.pager.now.free c.if-pager-eq0.true) h) c.grow.ensures.blames_none_told
