use Rattle.mr_tree.specs.Tree.{nodes}
use Rattle.mr_grow.proofs.deletion.+take_out.Given as goal

abbrev pub decreases-take_out : goal.decreases-take_out
decreases-take_out l = nodes l.tree
