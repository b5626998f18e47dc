use Rattle.std.proofs.Common.{◌∙◌}
use Rattle.mr_tree.specs.Digest.{root_preimage}
use Rattle.mr_clash.proofs.Walks.{pair_as}
use Rattle.mr_clash.proofs.auditing.compare_roots.Goals as goal

pub returns : goal.returns
returns c = λ hash h P version batch count node.
    pair_as c.clash_of.result c.in_ok-owned.owned.items _ c.deref.result.now _
    (c.in_ok-owned.ensures ∙ (λ i. root_preimage c.args.top.now.version c.args.top.now.batch c.args.top.now.count
    (c.root_entry-root.ensures i)))
    (c.deref.ensures.value ∙ c.in_ok-shown.ensures
    ∙ (λ i. root_preimage (version i) (batch i) (count i) c.args.node.now) ∙ node)
    c.clash_of.ensures
