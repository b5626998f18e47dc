use Rattle.mr_join.proofs.Sweeps.{moved_entries, moved_tree}
use Rattle.mr_join.proofs.sweeping.tree_of.Goals as goal

pub returns-clause-entries : goal.returns-clause-entries
returns-clause-entries c =
    moved_entries c.args.entries.now c.in_ok-nodes.nodes.items c.sort_nodes.new.nodes.items
    c.in_ok-nodes.ensures.entries c.sort_nodes.ensures

pub returns-clause-tree : goal.returns-clause-tree
returns-clause-tree c =
    moved_tree c.in_ok-nodes.nodes.items c.sort_nodes.new.nodes.items c.sort_nodes.ensures c.in_ok-nodes.ensures.fresh
