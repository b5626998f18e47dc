use Rattle.std.proofs.Common.{[], true, sym, subst, ◌∙◌}
use Rattle.std.proofs.lemmas.Result.{err_from_is_err_and}
use Rattle.mr_tree.specs.Digest.{by}
use Rattle.mr_store.specs.private.Walk.{CanWalk, StopsWalk}
use Rattle.mr_store.specs.private.Listing.{CanListAll}
use Rattle.mr_store.proofs.Walks.{refuses_as}
use Rattle.mr_store.proofs.Listings.{can_begin, lists_at, lists_tree, miscounted}
use Rattle.mr_store.proofs.Blames.{walk_stops, root_stops, told_on}
use Rattle.mr_store.proofs.listing.listed.Goals as goal

pub returns-in_err-_root-clause-cause : goal.returns-in_err-_root-clause-cause
returns-in_err-_root-clause-cause g c =
    let p = err_from_is_err_and c.from_residual-in_err-_root.result c.from_residual-in_err-_root.ensures.1 in
    let s = g.N.Nodes.stands c.args.nodes.now in
    rw (p.1, p.2) (refuses_as s (g.N.Nodes.faults c.args.nodes.now) (g.N.Nodes.faults c.walk.new.nodes)
    (CanWalk s true c.in_ok-seen.seen c.args.root.now) (CanListAll s c.args.root.now c.args.count)
    c.in_err-_root.field-0.0
    (λ told can. can_begin s c.args.root.now c.in_ok-seen.seen c.in_ok-seen.ensures.none can.can)
    c.in_err-_root.ensures.cause)

pub returns-clause-lists : goal.returns-clause-lists
returns-clause-lists g c =
    lists_at c.args.version g.N.Hash.Hashes.of (g.N.Nodes.stands c.args.nodes.now) c.args.root.now
    c.in_ok-room.field-0.items c.walk.new.into.all.items
    c.in_ok-seen.seen c.walk.new.seen (g.N.Nodes.fetches c.args.nodes.now) (g.N.Nodes.fetches c.walk.new.nodes)
    c.requires.version c.requires.may c.in_ok-room.ensures.none c.in_ok-seen.ensures.none c.in_ok-_root.ensures.walked

pub returns-clause-says : goal.returns-clause-says
returns-clause-says g c =
    lists_tree (by c.args.version g.N.Hash.Hashes.of) (g.N.Nodes.stands c.args.nodes.now) c.args.root.now
    c.in_ok-room.field-0.items c.walk.new.into.all.items c.in_ok-seen.seen c.walk.new.seen
    (g.N.Nodes.fetches c.args.nodes.now) (g.N.Nodes.fetches c.walk.new.nodes) c.args.count c.in_ok-seen.ensures.none
    c.in_ok-_root.ensures.walked c.in_ok-room.ensures.none c.requires.counted
    (sym c.count.ensures ∙ c.in_ok-fits.ensures.fits)

pub returns-in_err-fits-clause-cause : goal.returns-in_err-fits-clause-cause
returns-in_err-fits-clause-cause g c =
    let p = err_from_is_err_and c.from_residual-in_err-fits.result c.from_residual-in_err-fits.ensures.1 in
    let s = g.N.Nodes.stands c.args.nodes.now in
    rw (p.1, p.2) (subst (StopsWalk s (g.N.Nodes.faults c.args.nodes.now) (g.N.Nodes.faults c.walk.new.nodes)
    (CanListAll s c.args.root.now c.args.count)) (sym c.in_err-fits.ensures.blames)
    (miscounted (by c.args.version g.N.Hash.Hashes.of) s c.args.root.now
    c.in_ok-room.field-0.items c.walk.new.into.all.items c.in_ok-seen.seen c.walk.new.seen
    (g.N.Nodes.fetches c.args.nodes.now) (g.N.Nodes.fetches c.walk.new.nodes) c.args.count c.in_ok-seen.ensures.none
    c.in_ok-_root.ensures.walked (g.N.Nodes.faults c.args.nodes.now) (g.N.Nodes.faults c.walk.new.nodes)
    (c.requires.may.positive, c.requires.may.within) c.in_ok-_root.ensures.quiet
    (λ e. c.in_err-fits.ensures.other (c.count.ensures ∙ e))))

pub returns-in_err-fits-clause-blames : goal.returns-in_err-fits-clause-blames
returns-in_err-fits-clause-blames g c =
    let none = c.in_ok-seen.ensures.none in
    let p = err_from_is_err_and c.from_residual-in_err-fits.result c.from_residual-in_err-fits.ensures.1 in
    rw (p.1, p.2) (root_stops g.N.Hash.Hashes.of (g.N.Nodes.stands c.args.nodes.now)
    (g.N.Nodes.asked c.walk.new.nodes) c.args.version c.args.root.now
    c.args.count c.count.result none.0 c.in_ok-seen.seen c.walk.new.seen (g.N.Nodes.fetches c.args.nodes.now)
    (g.N.Nodes.fetches c.walk.new.nodes) _ (g.N.Nodes.refusal c.walk.new.nodes) c.in_err-fits.field-0.0
    c.requires.version c.in_err-fits.ensures.blames none.1 c.in_ok-_root.ensures.walked c.count.ensures
    c.in_err-fits.ensures.other)

pub returns-in_err-_root-clause-answered : goal.returns-in_err-_root-clause-answered
returns-in_err-_root-clause-answered g c =
    let p = err_from_is_err_and c.from_residual-in_err-_root.result c.from_residual-in_err-_root.ensures.1 in
    rw (p.1, p.2) (told_on (g.N.Nodes.refusal c.args.nodes.now) (g.N.Nodes.refusal c.walk.new.nodes)
    c.in_err-_root.field-0.0 c.in_err-_root.ensures.answered)

pub returns-in_err-_root-clause-blames : goal.returns-in_err-_root-clause-blames
returns-in_err-_root-clause-blames g c =
    let p = err_from_is_err_and c.from_residual-in_err-_root.result c.from_residual-in_err-_root.ensures.1 in
    let none = c.in_ok-seen.ensures.none in
    rw (p.1, p.2) (walk_stops g.N.Hash.Hashes.of (g.N.Nodes.stands c.args.nodes.now)
    (g.N.Nodes.asked c.walk.new.nodes) c.args.root.now c.args.count
    (g.N.Nodes.refusal c.walk.new.nodes) c.in_err-_root.field-0.0
    (c.in_err-_root.ensures.blames none.0 [] none.1))
