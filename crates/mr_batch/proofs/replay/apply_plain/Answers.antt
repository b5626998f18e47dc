use Rattle.std.proofs.Common.{sym, ◌∙◌}
use Rattle.mr_tree.specs.Tree.{records}
use Rattle.mr_batch.proofs.Walking.{fault_none}
use Rattle.mr_batch.proofs.replay.apply_plain.Goals as goal

pub replayed-requires-clause-admissible : goal.replayed-requires-clause-admissible
replayed-requires-clause-admissible c =
    fault_none (records c.args.tree) c.args.held c.args.batch.now (sym c.in_ok-fault.ensures ∙ c.in-None.is)
