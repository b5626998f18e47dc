use Rattle.std.proofs.Common.{refl, sym, subst, ◌∙◌}
use Rattle.std.specs.Prelude.{Ok}
use Rattle.mr_record.specs.declared.version.Version.{Version}
use Rattle.mr_tree.specs.Digest.{by}
use Rattle.mr_clash.specs.private.Steps.{left, PassesRoot, WalksCut, FetchesItem}
use Rattle.mr_clash.specs.declared.error.AuditErr.{AuditErr}
use Rattle.mr_clash.proofs.Roots.{none_walked, root_alone, other_level, root_walked}
use Rattle.mr_clash.proofs.Fetches.{fetched_root}
use Rattle.mr_clash.proofs.auditing.walk_root.Goals as goal

pub returns-then-said-eq0-clause-walked : goal.returns-then-said-eq0-clause-walked
returns-then-said-eq0-clause-walked g c = λ h P bytes spelled version count level here.
    none_walked g.N.Hash.Hashes.of (g.N.Nodes.stands c.args.nodes.now) c.args.top.now h P bytes c.none-entry.result
    c.requires spelled (sym count ∙ c.if-said-eq0.true)

pub returns-in_ok-alone-in-None-clause-walked : goal.returns-in_ok-alone-in-None-clause-walked
returns-in_ok-alone-in-None-clause-walked g c = λ h P bytes spelled version count level here.
    root_alone {E = AuditErr} g.N.Hash.Hashes.of (g.N.Nodes.stands c.args.nodes.now) c.args.top.now h P bytes
    c.args.said.now.level (left c.args.from.now) (Ok c.in_ok-alone-in-None.alone) c.requires c.in-None.is spelled
    (λ z. c.if-said-eq0.false (count ∙ z)) level here
    (subst (λ (v : Version). PassesRoot {E = AuditErr} (by v g.N.Hash.Hashes.of) c.args.said.now.level
    (left c.args.from.now) (Ok c.in_ok-alone-in-None.alone)) version c.in_ok-alone-in-None.ensures)

pub returns-in_ok-alone-in-Some-clause-walked : goal.returns-in_ok-alone-in-Some-clause-walked
returns-in_ok-alone-in-Some-clause-walked g c = λ h P bytes spelled version count level here.
    other_level {E = AuditErr} g.N.Hash.Hashes.of c.digests_are_sized.ensures (g.N.Nodes.stands c.args.nodes.now)
    c.args.top.now c.in-Some.root h P bytes c.args.said.now.level (left c.args.from.now)
    (Ok c.in_ok-alone-in-Some.alone) c.requires c.in-Some.is c.are_words.ensures.batch c.are_words.ensures.count
    (record {
      at = c.in-Some.root.rect;
      is = refl;
      ordered = c.is_rect.ensures.ordered;
      fits = c.is_rect.ensures.fits;
    })
    (λ e. c.is_alike.ensures.other c.if-is_alike.false (e ∙ sym version)) spelled
    (λ z. c.if-said-eq0.false (count ∙ z)) level here
    (subst (λ (v : Version). PassesRoot {E = AuditErr} (by v g.N.Hash.Hashes.of) c.args.said.now.level
    (left c.args.from.now) (Ok c.in_ok-alone-in-Some.alone)) version c.in_ok-alone-in-Some.ensures)

pub returns-then-is_alike-clause-walked : goal.returns-then-is_alike-clause-walked
returns-then-is_alike-clause-walked g c = λ h P bytes spelled version count level here.
    root_walked g.N.Hash.Hashes.of c.digests_are_sized.ensures (g.N.Nodes.stands c.args.nodes.now) c.args.top.now
    c.in-Some.root h P bytes c.args.said.now.level (left c.args.from.now) _ c.walk.result c.requires
    c.in-Some.is c.are_words.ensures.batch c.are_words.ensures.count
    (record {
      at = c.in-Some.root.rect;
      is = refl;
      ordered = c.is_rect.ensures.ordered;
      fits = c.is_rect.ensures.fits;
    })
    (c.is_alike.ensures.alike c.if-is_alike.true).1 spelled (λ z. c.if-said-eq0.false (count ∙ z)) level here
    (subst (λ (v : Version). WalksCut {E = AuditErr} (by v g.N.Hash.Hashes.of) (g.N.Nodes.stands c.args.nodes.now)
    c.in-Some.root (left c.args.from.now) (left c.walk.new.from) c.walk.result)
    ((c.is_alike.ensures.alike c.if-is_alike.true).0 ∙ version)
    c.walk.ensures.walked)

pub returns-then-is_alike-clause-fetched : goal.returns-then-is_alike-clause-fetched
returns-then-is_alike-clause-fetched g c = λ h P bytes spelled version count level here.
    fetched_root h P bytes c.in-Some.root.level c.args.said.now.level (left c.args.from.now)
    (g.N.Nodes.fetches c.args.nodes.now) (g.N.Nodes.fetches c.walk.new.nodes) spelled
    (λ z. c.if-said-eq0.false (count ∙ z)) (c.is_alike.ensures.alike c.if-is_alike.true).1 level here
    (subst (λ (v : Version). FetchesItem v c.in-Some.root.level (left c.args.from.now)
    (g.N.Nodes.fetches c.args.nodes.now) (g.N.Nodes.fetches c.walk.new.nodes))
    ((c.is_alike.ensures.alike c.if-is_alike.true).0 ∙ version) c.walk.ensures.fetched)
