use Rattle.std.proofs.Common.{[], true, refl, subst, sym}
use Rattle.std.specs.Prelude.{Option, Some, None, Ok, Err, option_map}
use Rattle.mr_tree.specs.Digest.{by}
use Rattle.mr_tree.specs.declared.child.Child.{Child}
use Rattle.mr_pages.specs.Gathering.{MakesTree}
use Rattle.mr_pages.specs.Walking.{child_link}
use Rattle.mr_pages.specs.private.Walks.{WalkedAll}
use Rattle.mr_pages.proofs.Giving.{err_settles, gives_none, gives_so}
use Rattle.mr_pages.proofs.Outcomes.{root_visits, refused_as, kept_all, visits_of}
use Rattle.mr_pages.proofs.checking.visit_all.Goals as goal

pub returns-in-None-clause-told : goal.returns-in-None-clause-told
returns-in-None-clause-told g c =
    let s = g.P.Source.state c.args.pages.now in
    let h = by s.origin.form.version g.P.Hash.Hashes.of in
    gives_none s c.args.seen.now c.args.seen.now _ refl
    (λ f. subst (λ (o : Option Child). WalkedAll h
    (MakesTree (g.P.Source.makes h true) (g.P.Source.held c.args.pages.now) (g.P.Source.held c.args.pages.now) o)
    s.pages (option_map child_link o) (Ok None)
    c.args.seen.now f) (sym c.in-None.is)
    (record { visits_ = record { none = refl; saw = c.requires.none }; made = refl }))

pub returns-in-Ok-clause-told : goal.returns-in-Ok-clause-told
returns-in-Ok-clause-told g c =
    let s = g.P.Source.state c.args.pages.now in
    let h = by s.origin.form.version g.P.Hash.Hashes.of in
    gives_so s c.args.seen.now c.visit.new.seen _ _ (λ f walked.
    subst (λ (o : Option Child). WalkedAll h
    (MakesTree (g.P.Source.makes h true) (g.P.Source.held c.args.pages.now) (g.P.Source.held c.visit.new.pages) o)
    s.pages (option_map child_link o) (Ok (Some c.in-Ok.made)) c.visit.new.seen f) (sym c.in-Some.is) (record {
      visits_ = root_visits _ h s.pages f.node (child_link c.in-Some.child) (Ok (Some c.in-Ok.made)) c.visit.new.seen
          (walked.walks [] c.requires.none);
      made = walked.made;
    })) c.in-Ok.ensures.told

pub returns-in-Err-clause-told : goal.returns-in-Err-clause-told
returns-in-Err-clause-told g c =
    let s = g.P.Source.state c.args.pages.now in
    let h = by s.origin.form.version g.P.Hash.Hashes.of in
    err_settles (Unit {0}) (Unit {0}) c.in-Err.error c.in-Err.ensures.told
    (gives_so s c.args.seen.now c.visit.new.seen _ _ (λ f walked.
    subst (λ (o : Option Child). WalkedAll {M = Option g.row.P-Made.Denot} h
    (MakesTree (g.P.Source.makes h true) (g.P.Source.held c.args.pages.now) (g.P.Source.held c.visit.new.pages) o)
    s.pages (option_map child_link o) (Err c.in-Err.error) c.visit.new.seen f) (sym c.in-Some.is) (record {
      visits_ = root_visits (Unit {0}) h s.pages f.node (child_link c.in-Some.child) (Err c.in-Err.error)
          c.visit.new.seen
          (refused_as (Unit {0}) (Unit {0}) h s.pages f.node [] true (child_link c.in-Some.child) c.in-Err.error
          c.visit.new.seen (walked.walks [] c.requires.none));
      made = tt;
    })))

pub returns-in-Ok-clause-kept : goal.returns-in-Ok-clause-kept
returns-in-Ok-clause-kept g c = λ file is.
    let s = g.P.Source.state c.args.pages.now in
    let h = by s.origin.form.version g.P.Hash.Hashes.of in
    let root = option_map child_link c.args.root.now in
    kept_all _ h s.pages file root (Ok (Some c.in-Ok.made)) c.args.seen.now c.visit.new.seen
    (g.P.Source.keeps c.visit.new.pages) c.requires.none
    (visits_of h (MakesTree (g.P.Source.makes h true) (g.P.Source.held c.args.pages.now)
    (g.P.Source.held c.visit.new.pages) c.args.root.now) s root (Ok (Some c.in-Ok.made)) c.args.seen.now
    c.visit.new.seen (returns-in-Ok-clause-told g c) file is) c.in-Ok.ensures.kept
