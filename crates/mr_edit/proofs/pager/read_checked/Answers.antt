use Rattle.std.proofs.Common.{◌≡◌, true, false, sym, subst, ◌∙◌}
use Rattle.mr_tree.specs.View.{children_in}
use Rattle.mr_tree.proofs.Told.{told_counts}
use Rattle.mr_pages.specs.private.Judging.{fits_entry}
use Rattle.mr_pages.proofs.Fits.{fit_rect, fit_sums, fit_full}
use Rattle.mr_edit.proofs.Looking.{fit_blames}
use Rattle.mr_edit.proofs.pager.read_checked.Goals as goal

pub is_fit-requires : goal.is_fit-requires
is_fit-requires g c =
    told_counts g.F.PageFile.scheme.version (children_in c.read.new.into) c.in_ok-read.ensures.shown.children

pub returns-then-not-is_fit-clause-blames_none_told : goal.returns-then-not-is_fit-clause-blames_none_told
returns-then-not-is_fit-clause-blames_none_told g c =
    fit_blames g.F.PageFile.scheme c.args.root (g.F.PageFile.told c.args.file.now) c.args.child.now c.read.new.into
    c.in_ok-read.ensures.node
    (subst (λ v. fits_entry v c.args.root c.args.child.now c.read.new.into ≡ false) c.version.ensures
    (sym c.is_fit.ensures ∙ c.if-not-is_fit.true))

pub returns-clause-round : goal.returns-clause-round
returns-clause-round g c =
    fit_rect c.version.result c.args.root c.args.child.now c.read.new.into
    (sym c.is_fit.ensures ∙ c.if-not-is_fit.false)

pub returns-clause-sums : goal.returns-clause-sums
returns-clause-sums g c =
    fit_sums g.F.PageFile.scheme c.args.root c.args.child.now c.read.new.into
    (subst (λ v. fits_entry v c.args.root c.args.child.now c.read.new.into ≡ true) c.version.ensures
    (sym c.is_fit.ensures ∙ c.if-not-is_fit.false))

pub returns-clause-full : goal.returns-clause-full
returns-clause-full g c =
    fit_full c.version.result c.args.root c.args.child.now c.read.new.into
    (sym c.is_fit.ensures ∙ c.if-not-is_fit.false)
