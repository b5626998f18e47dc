use Rattle.mr_tree.specs.Digest.{by}
use Rattle.mr_store.proofs.Listings.{tree_gathered}
use Rattle.mr_store.proofs.Walks.{if_ok}
use Rattle.mr_store.proofs.listing.list_all.Goals as goal

pub returns-clause-says : goal.returns-clause-says
returns-clause-says g c =
    if_ok c.gathered.result _ _
    (λ d h. tree_gathered (by c.args.version g.N.Hash.Hashes.of) c.args.root.now c.args.count
    (g.N.Nodes.fetches c.args.nodes.now) (g.N.Nodes.fetches c.listed.new.nodes) c.in_ok-all.all.items d
    c.in_ok-all.ensures.says h)
    c.gathered.ensures.lists
