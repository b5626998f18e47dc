use Rattle.mr_tree.specs.Tree.{nodes}
use Rattle.mr_grow.proofs.insertion.+put_into.Given as goal

abbrev pub decreases-put_into : goal.decreases-put_into
decreases-put_into l = nodes l.tree
