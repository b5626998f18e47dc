use Rattle.std.proofs.Common.{Bool, cond, sym, ap, ◌∙◌, arith, None}
use Rattle.std.proofs.lemmas.Bool.{eq-eqb, ne_eqb}
use Rattle.mr_pages.specs.PageBytes.{root_link_in, root_in}
use Rattle.mr_pages.proofs.page.head.read_root.Goals as goal

pub returns-then-count-eq0 : goal.returns-then-count-eq0
unfolding root_in
returns-then-count-eq0 c =
    sym (ap (λ (b : Bool). cond b None (root_link_in c.args.version c.args.count c.args.level c.args.raw.now))
    (eq-eqb c.args.count 0 (omega arith)))

pub returns : goal.returns
unfolding root_in
returns c =
    c.read_root_link.ensures
    ∙ sym (ap (λ (b : Bool). cond b None (root_link_in c.args.version c.args.count c.args.level c.args.raw.now))
    (ne_eqb c.args.count 0 (omega arith)))
