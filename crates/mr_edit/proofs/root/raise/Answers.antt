use Rattle.std.proofs.Common.{◌∷◌, [], arith}
use Rattle.std.proofs.lemmas.Result.{IfOk-weaker, IfErr-weaker}
use Rattle.mr_edit.specs.Growing.{CanRaise}
use Rattle.mr_edit.specs.Held.{HaveFew}
use Rattle.mr_edit.proofs.Growth.{raise_take, raise_write}
use Rattle.mr_edit.proofs.Sound.{never, handed}
use Rattle.mr_edit.proofs.root.raise.Goals as goal

pub returns-in_err-page-clause-blames_none_told : goal.returns-in_err-page-clause-blames_none_told
returns-in_err-page-clause-blames_none_told g c =
    let told = g.F.PageFile.told c.args.pager.now.file in
    handed c.from_residual.result c.in_err-page.field-0.0
    (CanRaise told c.args.pager.now.free c.args.first.level × HaveFew (c.args.first ∷ c.args.second ∷ []))
    c.from_residual.ensures.1
    (never c.in_err-page.field-0.0 _ _ (λ k. raise_take told c.args.pager.now.free c.args.first.level k.0)
    c.in_err-page.ensures.blames_none_told)

pub returns-clause-blames_none_told : goal.returns-clause-blames_none_told
returns-clause-blames_none_told g c =
    let told = g.F.PageFile.told c.args.pager.now.file in
    IfErr-weaker c.write_inner.result _ _
    (λ e h. never e _ _ (λ k. (
      raise_write told (g.F.PageFile.told c.take_page.new.pager.file) c.args.pager.now.free
          c.take_page.new.pager.free c.in_ok-page.page c.args.first.level c.in_ok-page.ensures.takes k.0,
      k.1,
    )) h)
    c.write_inner.ensures.blames_none_told

pub returns-clause-low : goal.returns-clause-low
returns-clause-low g c =
    IfOk-weaker c.write_inner.result _ _ (λ child e. omega (arith, e, c.if-first-ge-LEVEL_LIMIT.false))
    c.write_inner.ensures.level
