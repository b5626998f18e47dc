use Rattle.std.proofs.Common.{◌++◌, ap, sym, ◌∙◌}
use Rattle.mr_grow.specs.private.Kept.{removal_value}
use Rattle.mr_grow.proofs.Settled.{set_aside_is, stays_is}
use Rattle.mr_grow.proofs.deletion.settle.Goals as goal

pub returns-in_ok-append : goal.returns-in_ok-append
returns-in_ok-append c =
    set_aside_is c.args.children.items c.args.at (removal_value c.args.left) _ _
    (sym c.is_low.ensures ∙ c.if-is_low.true)
    c.of.ensures
    (c.in_ok-append.ensures.items ∙ ap (λ rs. rs ++ c.args.left.aside.items) c.in_ok-records.ensures)

pub returns-in_ok-insert : goal.returns-in_ok-insert
returns-in_ok-insert c =
    stays_is c.args.children.items c.args.at (removal_value c.args.left) _ (sym c.is_low.ensures ∙ c.if-is_low.false)
    (c.of-else-is_low.ensures ∙ c.in_ok-insert.ensures.items)
