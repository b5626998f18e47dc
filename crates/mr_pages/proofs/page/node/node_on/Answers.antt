use Rattle.std.proofs.Common.{◌<◌, false, get_or, subst, arith}
use Rattle.mr_pages.specs.Walking.{ShowsWanted}
use Rattle.mr_pages.proofs.BothWays.{node_written, node_found, odd_node, sized_node}
use Rattle.mr_pages.proofs.page.node.node_on.Goals as goal

pub returns-then-page-layout-clause-read : goal.returns-then-page-layout-clause-read
returns-then-page-layout-clause-read c = λ n is.
    node_found c.args.layout c.args.page.now c.args.level false c.args.into.now n c.requires.room
    (odd_node c.args.layout c.args.page.now c.args.level c.if-page-layout.true) is

pub returns-clause-written : goal.returns-clause-written
returns-clause-written c = λ seen.
    node_written c.args.layout c.args.page.now c.args.level c.read_tagged.result c.read_tagged.new.into
    (λ i. let fits : get_or c.args.page.now i 0 < 256 = omega (arith, c.type_inv.page i) in fits)
    (subst (ShowsWanted c.read_tagged.result c.read_tagged.new.into)
    (sized_node c.args.layout c.args.page.now c.args.level c.if-page-layout.false) c.read_tagged.ensures) seen

pub returns-clause-read : goal.returns-clause-read
returns-clause-read c = λ n is.
    node_found c.args.layout c.args.page.now c.args.level c.read_tagged.result c.read_tagged.new.into n c.requires.room
    (subst (ShowsWanted c.read_tagged.result c.read_tagged.new.into)
    (sized_node c.args.layout c.args.page.now c.args.level c.if-page-layout.false) c.read_tagged.ensures) is
