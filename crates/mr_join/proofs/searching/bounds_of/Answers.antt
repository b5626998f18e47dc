use Rattle.mr_join.proofs.Trees.{root_bounds}
use Rattle.mr_join.proofs.searching.bounds_of.Goals as goal

pub returns : goal.returns
returns c = λ x tree. root_bounds x c.args.nodes.now c.index-nodes-nodes.result tree
