use Rattle.std.proofs.Common.{◌∙◌}
use Rattle.mr_tree.proofs.Slim.{slim_tree}
use Rattle.mr_pack.proofs.joined.first_root.Goals as goal

pub entry_over-entry-requires-clause-slim : goal.entry_over-entry-requires-clause-slim
entry_over-entry-requires-clause-slim g c = slim_tree c.args.tree.now c.requires

pub entry_over-entry-requires-clause-entries : goal.entry_over-entry-requires-clause-entries
entry_over-entry-requires-clause-entries g c = c.deref.ensures.value ∙ c.in_ok-entries.ensures
