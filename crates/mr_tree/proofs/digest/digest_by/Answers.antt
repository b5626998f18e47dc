use Rattle.mr_tree.proofs.Slim.{slim_tree}
use Rattle.mr_tree.proofs.digest.digest_by.Goals as goal

pub tree_entry-requires-clause-slim : goal.tree_entry-requires-clause-slim
tree_entry-requires-clause-slim g c = slim_tree c.args.tree.now c.requires.well_formed
