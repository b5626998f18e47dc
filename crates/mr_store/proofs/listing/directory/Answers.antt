use Rattle.std.proofs.Common.{subst}
use Rattle.std.specs.Prelude.{IfOk, IfErr}
use Rattle.mr_tree.specs.declared.nodes.Top.{Top}
use Rattle.mr_store.specs.Blamed.{StopsAt}
use Rattle.mr_store.specs.Stored.{IsListedAs}
use Rattle.mr_store.proofs.listing.directory.Goals as goal

pub returns-clause-says : goal.returns-clause-says
returns-clause-says g c =
    subst (λ (top : Top). IfOk c.directory_as.result (IsListedAs g.N.Hash.Hashes.of top
    (g.N.Nodes.fetches c.args.nodes.now) (g.N.Nodes.fetches c.directory_as.new.nodes)))
    c.top-top.ensures.says c.directory_as.ensures.says

pub returns-clause-blames : goal.returns-clause-blames
returns-clause-blames g c =
    subst (λ (top : Top). IfErr c.directory_as.result (StopsAt g.N.Hash.Hashes.of (g.N.Nodes.stands c.args.nodes.now)
    top.root top.count (g.N.Nodes.asked c.directory_as.new.nodes) (g.N.Nodes.refusal c.directory_as.new.nodes)))
    c.top-top.ensures.says c.directory_as.ensures.blames
