use Rattle.std.proofs.Common.{sym}
use Rattle.mr_store.proofs.Listings.{all_refuses, none_listed, root_listed, some_listed}
use Rattle.mr_store.proofs.Walks.{if_ok, if_err}
use Rattle.mr_store.proofs.Wholes.{none_fetched, root_fetched, said_count}
use Rattle.mr_store.proofs.Blames.{said_stops}
use Rattle.mr_store.proofs.listing.directory_as.Goals as goal

pub returns-in-Some-clause-cause : goal.returns-in-Some-clause-cause
returns-in-Some-clause-cause g c =
    if_err c.list_all.result _ _
    (λ e h. all_refuses g.N.Hash.Hashes.of (g.N.Nodes.stands c.args.nodes.now) c.args.top.now c.in-Some.root
    c.requires c.in-Some.is (g.N.Nodes.faults c.args.nodes.now) (g.N.Nodes.faults c.list_all.new.nodes) e
    (g.met.N.Nodes.well_formed c.args.nodes.now) h)
    c.list_all.ensures.cause

pub returns-in-Some-clause-lists : goal.returns-in-Some-clause-lists
returns-in-Some-clause-lists g c =
    if_ok c.list_all.result _ _
    (λ d h. root_listed g.N.Hash.Hashes.of (g.N.Nodes.stands c.args.nodes.now) c.args.top.now c.in-Some.root
    c.requires c.in-Some.is d h)
    c.list_all.ensures.lists

pub returns-in-Some-clause-says : goal.returns-in-Some-clause-says
returns-in-Some-clause-says g c =
    if_ok c.list_all.result _ _
    (λ d h. some_listed g.N.Hash.Hashes.of (g.N.Nodes.stands c.args.nodes.now) c.args.top.now c.in-Some.root
    (g.N.Nodes.fetches c.args.nodes.now) (g.N.Nodes.fetches c.list_all.new.nodes) d c.requires c.in-Some.is h)
    c.list_all.ensures.says

pub returns-in-Some-clause-fetched : goal.returns-in-Some-clause-fetched
returns-in-Some-clause-fetched g c =
    root_fetched g.N.Hash.Hashes.of (g.N.Nodes.stands c.args.nodes.now) c.args.top.now c.in-Some.root
    (g.N.Nodes.fetches c.args.nodes.now) (g.N.Nodes.fetches c.list_all.new.nodes) c.requires c.in-Some.is
    c.list_all.ensures.fetched

pub list_all-requires-clause-version : goal.list_all-requires-clause-version
list_all-requires-clause-version g c = sym c.requires.version

pub list_all-requires-clause-counted : goal.list_all-requires-clause-counted
list_all-requires-clause-counted g c =
    said_count g.N.Hash.Hashes.of (g.N.Nodes.stands c.args.nodes.now) c.args.top.now c.in-Some.root c.requires
    c.in-Some.is

pub returns-in-None-clause-fetched : goal.returns-in-None-clause-fetched
returns-in-None-clause-fetched g c =
    none_fetched (g.N.Nodes.stands c.args.nodes.now).tree (g.N.Nodes.fetches c.args.nodes.now)

pub returns-in-None-clause-says : goal.returns-in-None-clause-says
returns-in-None-clause-says g c =
    if_ok c.empty.result _ _
    (λ d h. none_listed g.N.Hash.Hashes.of (g.N.Nodes.stands c.args.nodes.now) c.args.top.now
    (g.N.Nodes.fetches c.args.nodes.now) d c.requires c.in-None.is h)
    c.empty.ensures.none

pub returns-in-Some-clause-blames : goal.returns-in-Some-clause-blames
returns-in-Some-clause-blames g c =
    if_err c.list_all.result _ _
    (λ e h. said_stops g.N.Hash.Hashes.of (g.N.Nodes.stands c.args.nodes.now) (g.N.Nodes.asked c.list_all.new.nodes)
    c.args.top.now.root c.in-Some.root
    c.args.top.now.count (g.N.Nodes.refusal c.list_all.new.nodes) e c.in-Some.is h)
    c.list_all.ensures.blames
