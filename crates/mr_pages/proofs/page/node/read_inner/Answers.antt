use Rattle.std.proofs.Common.{◌<◌, get_or, sym, subst, ◌∙◌, arith}
use Rattle.std.specs.Prelude.{Option}
use Rattle.mr_pages.specs.Page.{Node}
use Rattle.mr_pages.specs.PageBytes.{inner_in}
use Rattle.mr_pages.specs.Walking.{ShowsWanted}
use Rattle.mr_pages.proofs.ManyReads.{of_none, of_same, inner_level}
use Rattle.mr_pages.proofs.ViewPages.{inner_in_range}
use Rattle.mr_pages.proofs.page.node.read_inner.Goals as goal

pub returns-then-up-level : goal.returns-then-up-level
returns-then-up-level c =
    of_none c.args.level (inner_in c.args.version c.args.bytes.now) (λ n e same.
    c.if-up-level.true (sym (inner_level c.args.version c.args.bytes.now n
    (λ i. let fits : get_or c.args.bytes.now i 0 < 256 = omega (arith, c.type_inv.bytes i) in fits) e) ∙ same))

pub returns-else-not-is_from_one_to-2 : goal.returns-else-not-is_from_one_to-2
returns-else-not-is_from_one_to-2 c =
    subst (λ (o : Option Node). ShowsWanted c.show_inner.result c.show_inner.new.into o)
    (sym (of_same c.args.level (inner_in c.args.version c.args.bytes.now) (λ n e.
    inner_level c.args.version c.args.bytes.now n (λ i. let fits : get_or c.args.bytes.now i 0 < 256 =
    omega (arith, c.type_inv.bytes i) in fits) e ∙ c.if-up-level.false)
    ∙ inner_in_range c.args.version c.args.bytes.now c.in-len2-up.len_at_least (sym c.if-not-is_from_one_to.ensures)
    (sym c.if-not-is_from_one_to-2.ensures)))
    c.show_inner.ensures
