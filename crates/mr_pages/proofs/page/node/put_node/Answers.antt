use Rattle.mr_pages.proofs.ViewPages.{view_fits}
use Rattle.mr_pages.proofs.page.node.put_node.Goals as goal

pub returns-clause-node : goal.returns-clause-node
returns-clause-node c =
    view_fits c.args.layout.version c.args.node.now c.is_view.ensures c.requires.some c.requires.told
