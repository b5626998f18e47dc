use Rattle.std.proofs.Common.{true, false, refl, sym, ◌∙◌}
use Rattle.mr_pages.specs.PageBytes.{are_zeros}
use Rattle.mr_pages.proofs.Short.{is_filled_by}
use Rattle.mr_pages.proofs.page.put.is_filled.Goals as goal

pub returns-then-not-are_same : goal.returns-then-not-are_same
returns-then-not-are_same c =
    is_filled_by c.args.page.now c.args.piece.now c.split_at.result.0.now c.split_at.result.1.now false
    (are_zeros c.split_at.result.1.now) c.requires c.split_at.ensures.front c.split_at.ensures.back
    (sym c.if-not-are_same.true ∙ c.are_same.ensures) refl

pub returns : goal.returns
returns c =
    is_filled_by c.args.page.now c.args.piece.now c.split_at.result.0.now c.split_at.result.1.now true
    c.are_zero_bytes.result c.requires c.split_at.ensures.front c.split_at.ensures.back
    (sym c.if-not-are_same.false ∙ c.are_same.ensures) c.are_zero_bytes.ensures
