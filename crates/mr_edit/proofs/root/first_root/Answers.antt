use Rattle.std.proofs.Common.{refl, arith}
use Rattle.std.proofs.lemmas.Result.{IfOk-weaker, IfErr-weaker}
use Rattle.mr_edit.specs.Growing.{CanAdd}
use Rattle.mr_edit.proofs.Growth.{add_take, add_write}
use Rattle.mr_edit.proofs.Roots.{root_first}
use Rattle.mr_edit.proofs.Sound.{never, handed}
use Rattle.mr_edit.proofs.root.first_root.Goals as goal

pub returns-clause-inserts : goal.returns-clause-inserts
returns-clause-inserts g c =
    IfOk-weaker c.write_leaf.result _ _
    (λ e w. root_first g.F.PageFile.scheme (g.F.PageFile.told c.args.pager.now.file)
    (g.F.PageFile.told c.take_page.new.pager.file) (g.F.PageFile.told c.write_leaf.new.pager.file)
    c.args.pager.now.free c.take_page.new.pager.free c.write_leaf.new.pager.free c.in_ok-page.page _ c.args.one.now
    e refl
    c.in_ok-page.ensures.takes w)
    c.write_leaf.ensures.writes

pub returns-in_err-page-clause-blames_none_told : goal.returns-in_err-page-clause-blames_none_told
returns-in_err-page-clause-blames_none_told g c =
    let told = g.F.PageFile.told c.args.pager.now.file in
    handed c.from_residual.result c.in_err-page.field-0.0 (CanAdd told c.args.pager.now.free) c.from_residual.ensures.1
    (never c.in_err-page.field-0.0 _ _ (add_take told c.args.pager.now.free) c.in_err-page.ensures.blames_none_told)

pub returns-clause-blames_none_told : goal.returns-clause-blames_none_told
returns-clause-blames_none_told g c =
    let told = g.F.PageFile.told c.args.pager.now.file in
    IfErr-weaker c.write_leaf.result _ _
    (λ e h. never e _ _ (add_write told (g.F.PageFile.told c.take_page.new.pager.file) c.args.pager.now.free
    c.take_page.new.pager.free c.in_ok-page.page c.in_ok-page.ensures.takes) h)
    c.write_leaf.ensures.blames_none_told

pub returns-clause-low : goal.returns-clause-low
returns-clause-low g c =
    IfOk-weaker c.write_leaf.result _ _ (λ child e. omega (arith, e)) c.write_leaf.ensures.level
