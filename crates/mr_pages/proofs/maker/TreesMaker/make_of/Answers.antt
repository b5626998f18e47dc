use Rattle.std.proofs.Common.{ap, subst, sym, ◌≡◌, ◌∙◌}
use Rattle.mr_tree.specs.declared.tree.Tree.TheVariants as tree
use Rattle.mr_pages.specs.declared.node.Node as owned_type
use Rattle.mr_tree.specs.View.{children_in}
use Rattle.mr_pages.specs.Gathering.{tree_over}
use Rattle.mr_pages.specs.Walking.{owned}
use Rattle.mr_pages.proofs.Visits.{made_are}
use Rattle.mr_pages.proofs.maker.TreesMaker.make_of.Goals as goal

pub returns : goal.returns
returns c = λ x root before ts suits all.
    subst (λ (n : owned_type.Node). tree.Inner c.of-in-Inner.result ≡ tree_over n ts) (sym c.in-Inner.is)
    (ap tree.Inner (c.of-in-Inner.ensures ∙ made_are before tt (children_in (owned c.args.node)) c.args.below.items ts
    all))
