use Rattle.mr_store.specs.declared.copying.Copies.{Copies}
use Rattle.mr_pages.proofs.Copies.{all_placed, inner_put}
use Rattle.mr_store.proofs.Walks.{if_ok}
use Rattle.mr_store.proofs.copying.CopiesGather.inner.Goals as goal

pub returns-clause-gathers : goal.returns-clause-gathers
returns-clause-gathers c =
    if_ok c.put.result _ _
    (λ id put. λ x before root cs ts suits same all.
    inner_put x root c.args._child.now c.args.children.items _ cs ts before.nodes.items
    c.args.self.now.nodes.items c.put.new.list.items id c.of.ensures put suits same
    (all_placed x (λ (s : Copies). s.nodes.items) before c.args.self.now c.args.children.items ts all))
    c.put.ensures.put
