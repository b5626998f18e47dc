use Rattle.mr_prove.proofs.Steps.{told_fits}
use Rattle.mr_prove.proofs.part.write_pruned.Goals as goal

pub write_item-requires : goal.write_item-requires
write_item-requires g c = told_fits c.args.version c.args.child.now.mask c.args.child.now.count c.requires
