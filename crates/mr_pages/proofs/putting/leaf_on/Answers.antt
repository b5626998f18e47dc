use Rattle.mr_tree.specs.Digest.{by}
use Rattle.mr_pages.proofs.LeafEntries.{first_known}
use Rattle.mr_pages.proofs.Judged.{rect_some}
use Rattle.mr_pages.specs.Page.{node_entry}
use Rattle.mr_pages.specs.Walking.{page_node}
use Rattle.mr_pages.specs.private.Putting.{left}
use Rattle.mr_pages.proofs.putting.leaf_on.Goals as goal

pub child_with-requires : goal.child_with-requires
child_with-requires g c =
    let s = by c.args.layout.version g.H.Hashes.of in
    rect_some s c.args.view.now c.in-Some.entry.now c.requires.some
    (first_known (node_entry s (page_node c.args.view.now)) c.in-Some.entry.now (left c.args.leaves.now)
    c.in-Some.rest.now c.requires.known c.in-Some.ensures.cases.0)
