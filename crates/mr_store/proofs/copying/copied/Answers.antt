use Rattle.std.proofs.Common.{sym, subst, ◌∙◌}
use Rattle.mr_store.specs.Stored.{IsSaid}
use Rattle.mr_store.proofs.Wholes.{empty_well, empty_whole, empty_said, empty_stands, none_fetched}
use Rattle.mr_store.proofs.copying.copied.Goals as goal

pub over-requires-clause-whole : goal.over-requires-clause-whole
over-requires-clause-whole g c =
    empty_whole g.N.Hash.Hashes.of (g.N.Nodes.stands c.args.nodes.now) c.args.top.now c.new.result.items
    c.requires.top c.in-None.is c.new.ensures.items

pub over-requires-clause-well_formed : goal.over-requires-clause-well_formed
over-requires-clause-well_formed g c = empty_well

pub returns-in-None-clause-stands : goal.returns-in-None-clause-stands
returns-in-None-clause-stands g c = λ u told.
    c.over.ensures ∙ empty_stands g.N.Hash.Hashes.of (g.N.Nodes.stands c.args.nodes.now) c.args.top.now
    c.new.result.items
    c.requires.top c.in-None.is c.new.ensures.items u told

pub returns-in-None-clause-says : goal.returns-in-None-clause-says
returns-in-None-clause-says g c =
    subst (IsSaid g.N.Hash.Hashes.of c.args.top.now) (sym c.over.ensures)
    (empty_said g.N.Hash.Hashes.of (g.N.Nodes.stands c.args.nodes.now) c.args.top.now c.new.result.items
    c.requires.top c.in-None.is c.new.ensures.items)

pub returns-in-None-clause-fetched : goal.returns-in-None-clause-fetched
returns-in-None-clause-fetched g c =
    none_fetched (g.N.Nodes.stands c.args.nodes.now).tree (g.N.Nodes.fetches c.args.nodes.now)
