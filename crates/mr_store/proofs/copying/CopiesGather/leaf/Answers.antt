use Rattle.std.proofs.Common.{rules, ◌≡◌, ◌∙◌}
use Rattle.mr_pages.proofs.Copies.{leaf_put}
use Rattle.mr_store.proofs.Walks.{if_ok}
use Rattle.mr_store.proofs.copying.CopiesGather.leaf.Goals as goal

pub returns-clause-gathers : goal.returns-clause-gathers
returns-clause-gathers c =
    let same : c.in_ok-records.records.items ≡ c.args.records.now = search rules in
    if_ok c.put.result _ _
    (λ id put. λ x root suits.
    leaf_put x root c.args._child.now c.args.records.now _ c.args.self.now.nodes.items c.put.new.list.items id
    (c.of.ensures ∙ same) put suits)
    c.put.ensures.put
