use Rattle.std.proofs.Common.{sym, subst}
use Rattle.mr_tree.specs.declared.tree.Tree.TheVariants.{Leaf}
use Rattle.mr_store.proofs.walk.walk_leaf.Goals as goal

pub returns-clause-gathers : goal.returns-clause-gathers
returns-clause-gathers g c = λ x root suits.
    subst (λ d. g.G.Gather.gathers x c.args.into.now c.leaf.new.self d (Leaf c.args.records.now))
    (sym c.moved_to.ensures) (c.in_ok-id.ensures.gathers x root suits)
