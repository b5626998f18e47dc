use Rattle.std.proofs.Common.{arith}
use Rattle.std.specs.Prelude.{Some}
use Rattle.std.proofs.lemmas.Result.{IfOk-weaker, IfErr-weaker}
use Rattle.mr_edit.specs.Growing.{CanInsert}
use Rattle.mr_edit.proofs.Growth.{root_grow, root_raise}
use Rattle.mr_edit.proofs.Roots.{root_kept, root_raised}
use Rattle.mr_edit.proofs.Sound.{never, handed}
use Rattle.mr_edit.proofs.root.put_below.Goals as goal

pub returns-in-None-clause-inserts : goal.returns-in-None-clause-inserts
returns-in-None-clause-inserts g c =
    root_kept g.F.PageFile.scheme (g.F.PageFile.told c.args.pager.now.file)
    (g.F.PageFile.told c.put_into.new.pager.file) c.args.pager.now.free c.put_into.new.pager.free c.args.root.now
    c.args.one.now c.in_ok-first.field-0 c.in-None.is c.in_ok-first.ensures.grows

pub returns-in-Some-clause-inserts : goal.returns-in-Some-clause-inserts
returns-in-Some-clause-inserts g c =
    let s = c.in_ok-first.field-0 in
    IfOk-weaker c.raise.result _ _
    (λ e r. root_raised g.F.PageFile.scheme (g.F.PageFile.told c.args.pager.now.file)
    (g.F.PageFile.told c.put_into.new.pager.file) (g.F.PageFile.told c.raise.new.pager.file) c.args.pager.now.free
    c.put_into.new.pager.free c.raise.new.pager.free
    c.args.root.now c.args.one.now s c.in-Some.second e c.in-Some.is c.in_ok-first.ensures.grows r)
    c.raise.ensures.raises

pub returns-in_err-first-clause-blames_none_told : goal.returns-in_err-first-clause-blames_none_told
returns-in_err-first-clause-blames_none_told g c =
    let scheme = g.F.PageFile.scheme in
    let told = g.F.PageFile.told c.args.pager.now.file in
    let free = c.args.pager.now.free in
    handed c.from_residual.result c.in_err-first.field-0.0 (CanInsert scheme told free (Some c.args.root.now) 1)
    c.from_residual.ensures.1
    (never c.in_err-first.field-0.0 _ _ (root_grow scheme told free c.args.root.now c.args.one.now)
    c.in_err-first.ensures.blames_none_told)

pub returns-in-Some-clause-blames_none_told : goal.returns-in-Some-clause-blames_none_told
returns-in-Some-clause-blames_none_told g c =
    let scheme = g.F.PageFile.scheme in
    let told = g.F.PageFile.told c.args.pager.now.file in
    let free = c.args.pager.now.free in
    let s = c.in_ok-first.field-0 in
    IfErr-weaker c.raise.result _ _
    (λ e h. never e _ _
    (λ k. root_raise scheme told (g.F.PageFile.told c.put_into.new.pager.file) free c.put_into.new.pager.free
    c.args.root.now c.args.one.now s c.in-Some.second c.in-Some.is c.in_ok-first.ensures.grows k) h)
    c.raise.ensures.blames_none_told

pub returns-in-None-clause-low : goal.returns-in-None-clause-low
returns-in-None-clause-low g c = omega (arith, c.in_ok-first.ensures.level.0, c.in_ok-first.ensures.low)
