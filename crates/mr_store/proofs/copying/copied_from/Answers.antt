use Rattle.std.proofs.Common.{[], sym, subst, ap, arith, ◌∙◌}
use Rattle.std.specs.Prelude.{IfSome}
use Rattle.std.proofs.lemmas.Result.{err_from_is_err_and}
use Rattle.mr_tree.specs.Nodes.{MapModel, MayFetch, HasSomeCause}
use Rattle.mr_store.specs.Stored.{IsSaid}
use Rattle.mr_store.proofs.Wholes.{whole_well, whole_said, whole_snapshot, whole_stands, once_each, miscounted, refuses_all, none_fetched, root_fetched}
use Rattle.mr_store.proofs.Blames.{walk_stops, root_stops, said_stops}
use Rattle.mr_store.proofs.copying.copied_from.Goals as goal

pub walk-requires-clause-version : goal.walk-requires-clause-version
walk-requires-clause-version g c = sym c.requires.top.version

pub walk-requires-clause-may : goal.walk-requires-clause-may
walk-requires-clause-may g c =
    subst (λ o. IfSome o (MayFetch g.N.Hash.Hashes.of (g.N.Nodes.stands c.args.nodes.now))) c.requires.root
    c.requires.top.root

pub returns-in_err-copied-clause-cause : goal.returns-in_err-copied-clause-cause
returns-in_err-copied-clause-cause g c =
    let p = err_from_is_err_and c.from_residual-in_err-copied.result c.from_residual-in_err-copied.ensures.1 in
    rw (p.1, p.2) (refuses_all g.N.Hash.Hashes.of (g.N.Nodes.stands c.args.nodes.now) c.args.top.now c.args.root.now
    c.in_ok-seen.seen c.args.pages c.requires.top c.requires.root c.in_ok-seen.ensures.told
    (g.N.Nodes.faults c.args.nodes.now) (g.N.Nodes.faults c.walk.new.nodes) c.in_err-copied.field-0.0
    (g.met.N.Nodes.well_formed c.args.nodes.now) c.in_err-copied.ensures.cause)

pub over-requires-clause-whole : goal.over-requires-clause-whole
over-requires-clause-whole g c =
    whole_snapshot g.N.Hash.Hashes.of (g.N.Nodes.stands c.args.nodes.now) c.args.top.now c.args.root.now
    c.in_ok-copied.copied
    c.new-2.result.items c.walk.new.into.nodes.items c.in_ok-seen.seen c.walk.new.seen c.args.pages
    (g.N.Nodes.fetches c.args.nodes.now) (g.N.Nodes.fetches c.walk.new.nodes) c.requires.top c.requires.root
    c.new-2.ensures.items c.in_ok-seen.ensures.told c.in_ok-copied.ensures.same c.in_ok-copied.ensures.walked
    (sym c.in_ok-fits.ensures.fits ∙ c.count.ensures)

pub over-requires-clause-well_formed : goal.over-requires-clause-well_formed
over-requires-clause-well_formed g c =
    whole_well g.N.Hash.Hashes.of (g.N.Nodes.stands c.args.nodes.now) c.args.top.now c.args.root.now
    c.in_ok-copied.copied
    c.new-2.result.items c.walk.new.into.nodes.items c.in_ok-seen.seen c.walk.new.seen c.args.pages
    (g.N.Nodes.fetches c.args.nodes.now) (g.N.Nodes.fetches c.walk.new.nodes) c.requires.top c.requires.root
    c.new-2.ensures.items c.in_ok-seen.ensures.told c.in_ok-copied.ensures.same c.in_ok-copied.ensures.walked
    (sym c.in_ok-fits.ensures.fits ∙ c.count.ensures)

pub returns-in_err-fits-clause-cause : goal.returns-in_err-fits-clause-cause
returns-in_err-fits-clause-cause g c =
    let p = err_from_is_err_and c.from_residual-in_err-fits.result c.from_residual-in_err-fits.ensures.1 in
    let s = g.N.Nodes.stands c.args.nodes.now in
    let may = subst (λ o. IfSome o (MayFetch g.N.Hash.Hashes.of s)) c.requires.root c.requires.top.root in
    rw (p.1, p.2) (subst (HasSomeCause s (g.N.Nodes.faults c.args.nodes.now) (g.N.Nodes.faults c.walk.new.nodes))
    (sym c.in_err-fits.ensures.blames) (
      miscounted g.N.Hash.Hashes.of s c.args.top.now c.args.root.now
          c.in_ok-copied.copied
          c.new-2.result.items c.walk.new.into.nodes.items c.in_ok-seen.seen c.walk.new.seen c.args.pages
          (g.N.Nodes.fetches c.args.nodes.now) (g.N.Nodes.fetches c.walk.new.nodes) c.requires.top c.requires.root
          c.new-2.ensures.items c.in_ok-seen.ensures.told c.in_ok-copied.ensures.same c.in_ok-copied.ensures.walked
          (λ e. c.in_err-fits.ensures.other (c.count.ensures ∙ sym e)),
      (may.positive, may.within),
      c.in_ok-copied.ensures.quiet,
    ))

pub returns-in_err-copied-clause-blames : goal.returns-in_err-copied-clause-blames
returns-in_err-copied-clause-blames g c =
    let p = err_from_is_err_and c.from_residual-in_err-copied.result c.from_residual-in_err-copied.ensures.1 in
    rw (p.1, p.2) (said_stops g.N.Hash.Hashes.of (g.N.Nodes.stands c.args.nodes.now)
    (g.N.Nodes.asked c.walk.new.nodes) c.args.top.now.root
    c.args.root.now c.args.top.now.count (g.N.Nodes.refusal c.walk.new.nodes) c.in_err-copied.field-0.0 c.requires.root
    (walk_stops g.N.Hash.Hashes.of (g.N.Nodes.stands c.args.nodes.now)
    (g.N.Nodes.asked c.walk.new.nodes) c.args.root.now c.args.top.now.count
    (g.N.Nodes.refusal c.walk.new.nodes) c.in_err-copied.field-0.0
    (c.in_err-copied.ensures.blames c.args.pages [] c.in_ok-seen.ensures.told)))

pub returns-in_err-fits-clause-blames : goal.returns-in_err-fits-clause-blames
returns-in_err-fits-clause-blames g c =
    let p = err_from_is_err_and c.from_residual-in_err-fits.result c.from_residual-in_err-fits.ensures.1 in
    let s = g.N.Nodes.stands c.args.nodes.now in
    rw (p.1, p.2) (said_stops g.N.Hash.Hashes.of s (g.N.Nodes.asked c.walk.new.nodes) c.args.top.now.root
    c.args.root.now c.args.top.now.count (g.N.Nodes.refusal c.walk.new.nodes) c.in_err-fits.field-0.0 c.requires.root
    (root_stops g.N.Hash.Hashes.of s (g.N.Nodes.asked c.walk.new.nodes)
    c.args.top.now.version c.args.root.now c.args.top.now.count c.count.result
    c.args.pages c.in_ok-seen.seen c.walk.new.seen (g.N.Nodes.fetches c.args.nodes.now)
    (g.N.Nodes.fetches c.walk.new.nodes) _ (g.N.Nodes.refusal c.walk.new.nodes) c.in_err-fits.field-0.0
    (sym c.requires.top.version) c.in_err-fits.ensures.blames c.in_ok-seen.ensures.told
    c.in_ok-copied.ensures.walked c.count.ensures c.in_err-fits.ensures.other))

pub returns-clause-stands : goal.returns-clause-stands
returns-clause-stands g c = λ u told.
    c.over.ensures ∙ whole_stands g.N.Hash.Hashes.of (g.N.Nodes.stands c.args.nodes.now) c.args.top.now
    c.args.root.now c.in_ok-copied.copied
    c.new-2.result.items c.walk.new.into.nodes.items c.in_ok-seen.seen c.walk.new.seen c.args.pages
    (g.N.Nodes.fetches c.args.nodes.now) (g.N.Nodes.fetches c.walk.new.nodes) c.requires.top c.requires.root
    c.new-2.ensures.items c.in_ok-seen.ensures.told c.in_ok-copied.ensures.same c.in_ok-copied.ensures.walked
    (sym c.in_ok-fits.ensures.fits ∙ c.count.ensures) u told

pub returns-clause-says : goal.returns-clause-says
returns-clause-says g c =
    subst (IsSaid g.N.Hash.Hashes.of c.args.top.now) (sym c.over.ensures)
    (whole_said g.N.Hash.Hashes.of (g.N.Nodes.stands c.args.nodes.now) c.args.top.now c.args.root.now
    c.in_ok-copied.copied
    c.new-2.result.items c.walk.new.into.nodes.items c.in_ok-seen.seen c.walk.new.seen c.args.pages
    (g.N.Nodes.fetches c.args.nodes.now) (g.N.Nodes.fetches c.walk.new.nodes) c.requires.top c.requires.root
    c.new-2.ensures.items c.in_ok-seen.ensures.told c.in_ok-copied.ensures.same c.in_ok-copied.ensures.walked
    (sym c.in_ok-fits.ensures.fits ∙ c.count.ensures))

pub returns-in_err-copied-clause-fetched : goal.returns-in_err-copied-clause-fetched
returns-in_err-copied-clause-fetched g c =
    root_fetched g.N.Hash.Hashes.of (g.N.Nodes.stands c.args.nodes.now) c.args.top.now c.args.root.now
    (g.N.Nodes.fetches c.args.nodes.now) (g.N.Nodes.fetches c.walk.new.nodes) c.requires.top c.requires.root
    c.walk.ensures.fetched

pub returns-in_err-fits-clause-fetched : goal.returns-in_err-fits-clause-fetched
returns-in_err-fits-clause-fetched g c =
    root_fetched g.N.Hash.Hashes.of (g.N.Nodes.stands c.args.nodes.now) c.args.top.now c.args.root.now
    (g.N.Nodes.fetches c.args.nodes.now) (g.N.Nodes.fetches c.walk.new.nodes) c.requires.top c.requires.root
    c.walk.ensures.fetched

pub returns-clause-fetched : goal.returns-clause-fetched
returns-clause-fetched g c =
    root_fetched g.N.Hash.Hashes.of (g.N.Nodes.stands c.args.nodes.now) c.args.top.now c.args.root.now
    (g.N.Nodes.fetches c.args.nodes.now) (g.N.Nodes.fetches c.walk.new.nodes) c.requires.top c.requires.root
    c.walk.ensures.fetched

pub returns-in_err-seen-clause-fetched : goal.returns-in_err-seen-clause-fetched
returns-in_err-seen-clause-fetched g c =
    none_fetched (g.N.Nodes.stands c.args.nodes.now).tree (g.N.Nodes.fetches c.args.nodes.now)

pub returns-clause-fetches_at_most : goal.returns-clause-fetches_at_most
returns-clause-fetches_at_most g c =
    let spans = ap (λ (s : MapModel). s.span) c.over.ensures in
    omega (
      arith,
      spans,
      once_each g.N.Hash.Hashes.of (g.N.Nodes.stands c.args.nodes.now) c.args.top.now c.args.root.now
          c.in_ok-copied.copied
          c.new-2.result.items c.walk.new.into.nodes.items c.in_ok-seen.seen c.walk.new.seen c.args.pages
          (g.N.Nodes.fetches c.args.nodes.now) (g.N.Nodes.fetches c.walk.new.nodes) c.requires.top c.requires.root
          c.new-2.ensures.items c.in_ok-seen.ensures.told c.in_ok-copied.ensures.same c.in_ok-copied.ensures.walked
          (sym c.in_ok-fits.ensures.fits ∙ c.count.ensures),
    )
