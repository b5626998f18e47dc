use Rattle.std.proofs.Common.{◌≡◌, false, inl, refl, sym, subst, ◌∙◌}
use Rattle.mr_tree.specs.View as view
use Rattle.mr_tree.proofs.Told.{told_counts}
use Rattle.mr_store.proofs.Walks.{suits_of, unfit_refuses}
use Rattle.mr_pages.specs.private.Judging.{fits_entry}
use Rattle.mr_store.proofs.walk.look.Goals as goal

pub is_fit-requires : goal.is_fit-requires
is_fit-requires g c =
    told_counts (g.N.Nodes.stands c.args.nodes.now).version (view.children_in c.fetch.new.into)
    c.in_ok-fetch.ensures.shows.told.children

pub returns-then-not-is_fit-clause-cause : goal.returns-then-not-is_fit-clause-cause
returns-then-not-is_fit-clause-cause g c =
    unfit_refuses c.args.version g.N.Hash.Hashes.of (g.N.Nodes.stands c.args.nodes.now) c.args.root c.args.child.now
    c.fetch.new.into (g.N.Nodes.faults c.args.nodes.now) (g.N.Nodes.faults c.fetch.new.self) c.requires.version
    c.requires.may c.in_ok-fetch.ensures.shows c.in_ok-fetch.ensures.quiet
    (sym c.is_fit.ensures ∙ c.if-not-is_fit.true)

pub returns-clause-suits : goal.returns-clause-suits
returns-clause-suits g c = λ counted.
    suits_of c.args.version g.N.Hash.Hashes.of (g.N.Nodes.stands c.args.nodes.now) c.args.root c.args.child.now
    c.fetch.new.into c.requires.version c.in_ok-fetch.ensures.shows c.is_view.ensures
    (sym c.is_fit.ensures ∙ c.if-not-is_fit.false) counted

pub returns-then-not-is_fit-clause-blames : goal.returns-then-not-is_fit-clause-blames
returns-then-not-is_fit-clause-blames g c = inl (record {
  page = refl;
  shows = c.in_ok-fetch.ensures.shows;
  views = c.is_view.ensures;
  unfit = subst (λ v. fits_entry v c.args.root c.args.child.now c.fetch.new.into ≡ false) (sym c.requires.version)
      (sym c.is_fit.ensures ∙ c.if-not-is_fit.true);
})

pub returns-clause-fits : goal.returns-clause-fits
returns-clause-fits g c = sym c.is_fit.ensures ∙ c.if-not-is_fit.false
