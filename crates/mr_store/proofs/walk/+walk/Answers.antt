use Rattle.std.proofs.Common.{◌≡◌, ◌+◌, ◌<◌, ◌++◌, ◌∷◌, rules, [], map, take, true, false, arith, refl, sym, ap, subst, ◌∙◌}
use Rattle.std.proofs.lemmas.List.{take_all, take_more, map-append}
use Rattle.std.proofs.lemmas.Result.{err_from_is_err_and}
use Rattle.mr_outside.specs.Faults.{next_count}
use Rattle.mr_tree.specs.Digest.{by}
use Rattle.mr_tree.specs.Nodes.{MapModel, ShowsNode}
use Rattle.mr_tree.specs.View.{IsView, count_over, child_entry, preimage_of}
use Rattle.mr_tree.specs.declared.tree.Tree.TheVariants as tree
use Rattle.mr_tree.specs.declared.tree.Tree.TheOpen.{Leaf, Inner}
use Rattle.mr_store.specs.private.Walk.{SuitsEntry, IsCounted, IsFull, CanWalk, GathersAll, WalkedAll}
use Rattle.mr_store.proofs.Walks.{leaf_walked, inner_walked, begun, gathers_more, next_walked, refuses_as, refuses_along, twice_refuses, may_next, next_can, next_count-≤, leaf_ended, if_err}
use Rattle.mr_store.proofs.Counted.{one_fetch, some_fetches, fetched_more}
use Rattle.std.specs.List.{flat_map}
use Rattle.mr_tree.specs.Tree.{records}
use Rattle.mr_pages.specs.Faults.{numbers_of}
use Rattle.mr_pages.specs.private.Judging.{fits_entry}
use Rattle.mr_store.proofs.Blames.{look_stops, leaf_stops, below_stops}
use Rattle.mr_store.proofs.walk.+walk.Goals as goal

pub returns-in_err-look-clause-cause : goal.returns-in_err-look-clause-cause
returns-in_err-look-clause-cause g t c =
    let p = err_from_is_err_and c.from_residual.result c.from_residual.ensures.1 in
    let s = g.N.Nodes.stands c.args.nodes.now in
    rw (p.1, p.2) (refuses_as s (g.N.Nodes.faults c.args.nodes.now) (g.N.Nodes.faults c.look.new.nodes)
    (IsFull s c.args.root c.args.child.now) (CanWalk s c.args.root c.args.seen.now c.args.child.now)
    c.in_err-look.field-0.0 (λ told can. can.full) c.in_err-look.ensures.cause)

pub returns-in_err-look-clause-fetched : goal.returns-in_err-look-clause-fetched
returns-in_err-look-clause-fetched g t c =
    λ told. one_fetch g.N.Hash.Hashes.of (g.N.Nodes.stands c.args.nodes.now) c.args.child.now c.requires.may told
    (g.N.Nodes.fetches c.args.nodes.now) (g.N.Nodes.fetches c.look.new.nodes) c.look.ensures.counted

pub returns-then-level-eq0-clause-walked : goal.returns-then-level-eq0-clause-walked
returns-then-level-eq0-clause-walked g t c =
    let s = g.N.Nodes.stands c.args.nodes.now in
    let hash = g.N.Hash.Hashes.of in
    let x = by c.args.version hash in
    let is = c.records.ensures.leaf (sym c.level.ensures.value ∙ c.if-level-eq0.true)
    ∙ ap Leaf (sym c.records.ensures.value) in
    let shows = subst (ShowsNode hash s c.args.child.now) is c.in_ok-look.ensures.shows in
    let suits = subst (λ n. IsCounted c.args.root c.args.child.now (count_over c.args.version n) →
    SuitsEntry x c.args.root c.args.child.now n) is c.in_ok-look.ensures.suits in
    let digest = subst (λ v. hash (preimage_of v (Leaf c.records.result.now)) ≡ c.args.child.now.digest)
    c.requires.version shows.digest in
    leaf_ended c.walk_leaf.result _ _ _
    (λ d made. leaf_walked x hash s c.args.root c.args.child.now c.records.result.now c.args.seen.now
    c.walk_leaf.new.seen (g.N.Nodes.fetches c.args.nodes.now) (g.N.Nodes.fetches c.look.new.nodes) _
    c.requires.may shows digest c.requires.version (subst IsView is c.in_ok-look.ensures.views)
    (subst (λ n. fits_entry c.args.version c.args.root c.args.child.now n ≡ true) is c.in_ok-look.ensures.fits)
    suits c.look.ensures.counted made.1 (made.0 x c.args.root))
    c.walk_leaf.ensures.gathers c.walk_leaf.ensures.adds

pub returns-then-level-eq0-clause-fetched : goal.returns-then-level-eq0-clause-fetched
returns-then-level-eq0-clause-fetched g t c =
    λ told. one_fetch g.N.Hash.Hashes.of (g.N.Nodes.stands c.args.nodes.now) c.args.child.now c.requires.may told
    (g.N.Nodes.fetches c.args.nodes.now) (g.N.Nodes.fetches c.look.new.nodes) c.look.ensures.counted

pub returns-then-level-eq0-clause-cause : goal.returns-then-level-eq0-clause-cause
returns-then-level-eq0-clause-cause g t c =
    let s = g.N.Nodes.stands c.args.nodes.now in
    let hash = g.N.Hash.Hashes.of in
    let is = c.records.ensures.leaf (sym c.level.ensures.value ∙ c.if-level-eq0.true)
    ∙ ap Leaf (sym c.records.ensures.value) in
    if_err c.walk_leaf.result _ _
    (λ e h. twice_refuses hash s c.args.root c.args.child.now c.records.result.now c.args.seen.now
    (g.N.Nodes.faults c.args.nodes.now) (g.N.Nodes.faults c.look.new.nodes) e c.requires.may
    (subst (ShowsNode hash s c.args.child.now) is c.in_ok-look.ensures.shows) c.in_ok-look.ensures.quiet h)
    c.walk_leaf.ensures.twice

pub returns-in_err-children-clause-fetched : goal.returns-in_err-children-clause-fetched
returns-in_err-children-clause-fetched g t c =
    λ told. one_fetch g.N.Hash.Hashes.of (g.N.Nodes.stands c.args.nodes.now) c.args.child.now c.requires.may told
    (g.N.Nodes.fetches c.args.nodes.now) (g.N.Nodes.fetches c.look.new.nodes) c.look.ensures.counted

pub returns-in_err-below-clause-fetched : goal.returns-in_err-below-clause-fetched
returns-in_err-below-clause-fetched g t c =
    λ told. one_fetch g.N.Hash.Hashes.of (g.N.Nodes.stands c.args.nodes.now) c.args.child.now c.requires.may told
    (g.N.Nodes.fetches c.args.nodes.now) (g.N.Nodes.fetches c.look.new.nodes) c.look.ensures.counted

pub loop-one-init : goal.loop-one-init
loop-one-init g t c =
    let s = g.N.Nodes.stands c.args.nodes.now in
    let x = by c.args.version g.N.Hash.Hashes.of in
    let f = g.N.Nodes.fetches c.args.nodes.now in
    record {
      kept = c.look.ensures.kept;
      quiet = c.in_ok-look.ensures.quiet;
      unrefused = c.in_ok-look.ensures.answered.none;
      all = subst (λ cs. WalkedAll x s [] c.args.seen.now c.args.seen.now (f + 1) (g.N.Nodes.fetches c.look.new.nodes)
          (GathersAll (g.G.Gather.gathers x) c.args.into.now c.args.into.now cs)) (sym c.in_ok-below.ensures.items)
          (begun x s c.args.seen.now c.args.into.now (g.G.Gather.gathers x) (f + 1)
          (g.N.Nodes.fetches c.look.new.nodes) (omega (arith, c.look.ensures.counted, next_count-≤ f)));
      same = ap (map child_entry) c.in_ok-below.ensures.items;
      fetched = λ told. omega (arith, c.look.ensures.counted);
    }

pub walk-requires : goal.walk-requires
walk-requires g t c κs within =
    let s = g.N.Nodes.stands c.args.nodes.now in
    let hash = g.N.Hash.Hashes.of in
    let high : 0 < c.level.result = omega (arith, c.if-level-eq0.false) in
    let own : c.deref-one-items.result.now ≡ c.children.result.now = search rules in
    let is = c.children.ensures.inner (subst (λ n. 0 < n) c.level.ensures.value high)
    ∙ ap Inner (sym (own ∙ c.children.ensures.value)) in
    let same = g.met.N.Nodes.kept_stands c.args.nodes.now c.loop-one.nodes c.loop-one.invariant.kept in
    let shows = subst (ShowsNode hash s c.args.child.now) is c.in_ok-look.ensures.shows in
    let may = may_next hash s (g.N.Nodes.stands c.loop-one.nodes) c.args.child.now c.one-item.result
    c.deref-one-items.result.now c.loop-one.one-index same shows c.loop-one-test.true c.one-item.is in
    let one = ap (λ (y : MapModel). y.version) same ∙ c.requires.version in
    (search rules, (search rules, (search rules, (search rules, (one, may)))))

pub returns-in_err-made-clause-fetched : goal.returns-in_err-made-clause-fetched
returns-in_err-made-clause-fetched g t c =
    let s = g.N.Nodes.stands c.args.nodes.now in
    let hash = g.N.Hash.Hashes.of in
    let x = by c.args.version hash in
    let high : 0 < c.level.result = omega (arith, c.if-level-eq0.false) in
    let own : c.deref-one-items.result.now ≡ c.children.result.now = search rules in
    let is = c.children.ensures.inner (subst (λ n. 0 < n) c.level.ensures.value high)
    ∙ ap Inner (sym (own ∙ c.children.ensures.value)) in
    let same = g.met.N.Nodes.kept_stands c.args.nodes.now c.loop-one.nodes c.loop-one.invariant.kept in
    let shows = subst (ShowsNode hash s c.args.child.now) is c.in_ok-look.ensures.shows in
    let suits = subst (λ n. IsCounted c.args.root c.args.child.now (count_over c.args.version n) →
    SuitsEntry x c.args.root c.args.child.now n) is c.in_ok-look.ensures.suits in
    λ told. some_fetches hash s c.args.child.now c.requires.may told c.deref-one-items.result.now
    c.deref-one-items.result.now refl shows (c.loop-one.one-index + 1)
    (g.N.Nodes.fetches c.args.nodes.now) (g.N.Nodes.fetches c.walk.new.nodes)
    (fetched_more s (g.N.Nodes.stands c.loop-one.nodes) c.deref-one-items.result.now c.loop-one.one-index
    c.one-item.result (next_count (g.N.Nodes.fetches c.args.nodes.now)) (g.N.Nodes.fetches c.loop-one.nodes)
    (g.N.Nodes.fetches c.walk.new.nodes) same c.one-item.is c.loop-one-test.true
    (c.loop-one.invariant.fetched told) c.walk.ensures.fetched told)

pub returns-in_err-push-clause-fetched : goal.returns-in_err-push-clause-fetched
returns-in_err-push-clause-fetched g t c =
    let s = g.N.Nodes.stands c.args.nodes.now in
    let hash = g.N.Hash.Hashes.of in
    let x = by c.args.version hash in
    let high : 0 < c.level.result = omega (arith, c.if-level-eq0.false) in
    let own : c.deref-one-items.result.now ≡ c.children.result.now = search rules in
    let is = c.children.ensures.inner (subst (λ n. 0 < n) c.level.ensures.value high)
    ∙ ap Inner (sym (own ∙ c.children.ensures.value)) in
    let same = g.met.N.Nodes.kept_stands c.args.nodes.now c.loop-one.nodes c.loop-one.invariant.kept in
    let shows = subst (ShowsNode hash s c.args.child.now) is c.in_ok-look.ensures.shows in
    let suits = subst (λ n. IsCounted c.args.root c.args.child.now (count_over c.args.version n) →
    SuitsEntry x c.args.root c.args.child.now n) is c.in_ok-look.ensures.suits in
    λ told. some_fetches hash s c.args.child.now c.requires.may told c.deref-one-items.result.now
    c.deref-one-items.result.now refl shows (c.loop-one.one-index + 1)
    (g.N.Nodes.fetches c.args.nodes.now) (g.N.Nodes.fetches c.walk.new.nodes)
    (fetched_more s (g.N.Nodes.stands c.loop-one.nodes) c.deref-one-items.result.now c.loop-one.one-index
    c.one-item.result (next_count (g.N.Nodes.fetches c.args.nodes.now)) (g.N.Nodes.fetches c.loop-one.nodes)
    (g.N.Nodes.fetches c.walk.new.nodes) same c.one-item.is c.loop-one-test.true
    (c.loop-one.invariant.fetched told) c.walk.ensures.fetched told)

pub returns-in_err-id-clause-fetched : goal.returns-in_err-id-clause-fetched
returns-in_err-id-clause-fetched g t c =
    let s = g.N.Nodes.stands c.args.nodes.now in
    let hash = g.N.Hash.Hashes.of in
    let x = by c.args.version hash in
    let high : 0 < c.level.result = omega (arith, c.if-level-eq0.false) in
    let own : c.deref-one-items.result.now ≡ c.children.result.now = search rules in
    let is = c.children.ensures.inner (subst (λ n. 0 < n) c.level.ensures.value high)
    ∙ ap Inner (sym (own ∙ c.children.ensures.value)) in
    let same = g.met.N.Nodes.kept_stands c.args.nodes.now c.loop-one.nodes c.loop-one.invariant.kept in
    let shows = subst (ShowsNode hash s c.args.child.now) is c.in_ok-look.ensures.shows in
    let suits = subst (λ n. IsCounted c.args.root c.args.child.now (count_over c.args.version n) →
    SuitsEntry x c.args.root c.args.child.now n) is c.in_ok-look.ensures.suits in
    λ told. some_fetches hash s c.args.child.now c.requires.may told c.deref-one-items.result.now
    c.deref-one-items.result.now refl shows c.loop-one.one-index
    (g.N.Nodes.fetches c.args.nodes.now) (g.N.Nodes.fetches c.loop-one.nodes) (c.loop-one.invariant.fetched told)

pub returns-in_ok-id-clause-fetched : goal.returns-in_ok-id-clause-fetched
returns-in_ok-id-clause-fetched g t c =
    let s = g.N.Nodes.stands c.args.nodes.now in
    let hash = g.N.Hash.Hashes.of in
    let x = by c.args.version hash in
    let high : 0 < c.level.result = omega (arith, c.if-level-eq0.false) in
    let own : c.deref-one-items.result.now ≡ c.children.result.now = search rules in
    let is = c.children.ensures.inner (subst (λ n. 0 < n) c.level.ensures.value high)
    ∙ ap Inner (sym (own ∙ c.children.ensures.value)) in
    let same = g.met.N.Nodes.kept_stands c.args.nodes.now c.loop-one.nodes c.loop-one.invariant.kept in
    let shows = subst (ShowsNode hash s c.args.child.now) is c.in_ok-look.ensures.shows in
    let suits = subst (λ n. IsCounted c.args.root c.args.child.now (count_over c.args.version n) →
    SuitsEntry x c.args.root c.args.child.now n) is c.in_ok-look.ensures.suits in
    λ told. some_fetches hash s c.args.child.now c.requires.may told c.deref-one-items.result.now
    c.deref-one-items.result.now refl shows c.loop-one.one-index
    (g.N.Nodes.fetches c.args.nodes.now) (g.N.Nodes.fetches c.loop-one.nodes) (c.loop-one.invariant.fetched told)

pub returns-in_err-made-clause-cause : goal.returns-in_err-made-clause-cause
returns-in_err-made-clause-cause g t c =
    let s = g.N.Nodes.stands c.args.nodes.now in
    let hash = g.N.Hash.Hashes.of in
    let x = by c.args.version hash in
    let high : 0 < c.level.result = omega (arith, c.if-level-eq0.false) in
    let own : c.deref-one-items.result.now ≡ c.children.result.now = search rules in
    let is = c.children.ensures.inner (subst (λ n. 0 < n) c.level.ensures.value high)
    ∙ ap Inner (sym (own ∙ c.children.ensures.value)) in
    let same = g.met.N.Nodes.kept_stands c.args.nodes.now c.loop-one.nodes c.loop-one.invariant.kept in
    let shows = subst (ShowsNode hash s c.args.child.now) is c.in_ok-look.ensures.shows in
    let suits = subst (λ n. IsCounted c.args.root c.args.child.now (count_over c.args.version n) →
    SuitsEntry x c.args.root c.args.child.now n) is c.in_ok-look.ensures.suits in
    let p = err_from_is_err_and c.from_residual-in_err-made.result c.from_residual-in_err-made.ensures.1 in
    rw (p.1, p.2) (refuses_along (λ y. CanWalk y false c.loop-one.seen c.one-item.result)
    (CanWalk s c.args.root c.args.seen.now c.args.child.now) s (g.N.Nodes.stands c.loop-one.nodes)
    (g.N.Nodes.faults c.args.nodes.now) (g.N.Nodes.faults c.loop-one.nodes)
    (g.N.Nodes.faults c.walk.new.nodes) c.in_err-made.field-0.0 same c.loop-one.invariant.quiet
    (λ told can. next_can x hash s c.args.root c.args.child.now c.one-item.result c.deref-one-items.result.now
    c.loop-one.one-index c.args.seen.now c.loop-one.seen (g.N.Nodes.fetches c.args.nodes.now + 1)
    (g.N.Nodes.fetches c.loop-one.nodes) _ told c.requires.may shows c.loop-one-test.true c.one-item.is
    c.loop-one.invariant.all can)
    c.in_err-made.ensures.cause)

pub loop-one-preserved : goal.loop-one-preserved
loop-one-preserved g t c =
    let s = g.N.Nodes.stands c.args.nodes.now in
    let hash = g.N.Hash.Hashes.of in
    let x = by c.args.version hash in
    let high : 0 < c.level.result = omega (arith, c.if-level-eq0.false) in
    let own : c.deref-one-items.result.now ≡ c.children.result.now = search rules in
    let is = c.children.ensures.inner (subst (λ n. 0 < n) c.level.ensures.value high)
    ∙ ap Inner (sym (own ∙ c.children.ensures.value)) in
    let same = g.met.N.Nodes.kept_stands c.args.nodes.now c.loop-one.nodes c.loop-one.invariant.kept in
    let shows = subst (ShowsNode hash s c.args.child.now) is c.in_ok-look.ensures.shows in
    let suits = subst (λ n. IsCounted c.args.root c.args.child.now (count_over c.args.version n) →
    SuitsEntry x c.args.root c.args.child.now n) is c.in_ok-look.ensures.suits in
    let G = g.G.Gather.gathers x in
    let list = take_more c.deref-one-items.result.now c.loop-one.one-index c.one-item.result c.loop-one-test.true in
    record {
      kept = g.met.N.Nodes.kept_on c.args.nodes.now c.loop-one.nodes c.walk.new.nodes c.loop-one.invariant.kept
          c.walk.ensures.kept;
      quiet = c.in_ok-made.ensures.quiet ∙ c.loop-one.invariant.quiet;
      unrefused = c.in_ok-made.ensures.answered.none ∙ c.loop-one.invariant.unrefused;
      all = next_walked x s (g.N.Nodes.stands c.loop-one.nodes) c.deref-one-items.result.now c.one-item.result
          c.loop-one.one-index c.args.seen.now c.loop-one.seen c.walk.new.seen
          (g.N.Nodes.fetches c.args.nodes.now + 1) (g.N.Nodes.fetches c.loop-one.nodes)
          (g.N.Nodes.fetches c.walk.new.nodes) (GathersAll G c.args.into.now c.loop-one.into c.loop-one.below.items)
          (GathersAll G c.args.into.now c.walk.new.into c.push.new.self.items)
          (G c.loop-one.into c.walk.new.into c.in_ok-made.made) same c.loop-one-test.true c.one-item.is
          c.loop-one.invariant.all
          c.in_ok-made.ensures.walked
          (λ us one before next. subst (λ cs. GathersAll G c.args.into.now c.walk.new.into cs (us ++ one ∷ []))
          (sym c.in_ok-push.ensures.items) (gathers_more G c.args.into.now c.loop-one.into c.walk.new.into
          c.loop-one.below.items us c.in_ok-made.made one before next));
      same = ap (map child_entry) c.in_ok-push.ensures.items
          ∙ map-append child_entry c.loop-one.below.items (c.in_ok-made.made ∷ [])
          ∙ (λ i. c.loop-one.invariant.same i ++ c.in_ok-made.ensures.same i ∷ [])
          ∙ sym (map-append child_entry (take c.loop-one.one-index c.deref-one-items.result.now)
          (c.one-item.result ∷ []))
          ∙ ap (map child_entry) (ap (λ y. take c.loop-one.one-index c.deref-one-items.result.now ++ y ∷ [])
          c.one-item.is
          ∙ sym list);
      fetched = λ told. fetched_more s (g.N.Nodes.stands c.loop-one.nodes) c.deref-one-items.result.now
          c.loop-one.one-index c.one-item.result (next_count (g.N.Nodes.fetches c.args.nodes.now))
          (g.N.Nodes.fetches c.loop-one.nodes) (g.N.Nodes.fetches c.walk.new.nodes) same c.one-item.is
          c.loop-one-test.true (c.loop-one.invariant.fetched told) c.walk.ensures.fetched told;
    }

pub returns-in_ok-id-clause-walked : goal.returns-in_ok-id-clause-walked
returns-in_ok-id-clause-walked g t c =
    let s = g.N.Nodes.stands c.args.nodes.now in
    let hash = g.N.Hash.Hashes.of in
    let x = by c.args.version hash in
    let high : 0 < c.level.result = omega (arith, c.if-level-eq0.false) in
    let own : c.deref-one-items.result.now ≡ c.children.result.now = search rules in
    let is = c.children.ensures.inner (subst (λ n. 0 < n) c.level.ensures.value high)
    ∙ ap Inner (sym (own ∙ c.children.ensures.value)) in
    let same = g.met.N.Nodes.kept_stands c.args.nodes.now c.loop-one.nodes c.loop-one.invariant.kept in
    let shows = subst (ShowsNode hash s c.args.child.now) is c.in_ok-look.ensures.shows in
    let suits = subst (λ n. IsCounted c.args.root c.args.child.now (count_over c.args.version n) →
    SuitsEntry x c.args.root c.args.child.now n) is c.in_ok-look.ensures.suits in
    let whole = take_all c.loop-one.one-index c.deref-one-items.result.now (omega arith) in
    let all = subst (λ cs. WalkedAll x s cs c.args.seen.now c.loop-one.seen (g.N.Nodes.fetches c.args.nodes.now + 1)
    (g.N.Nodes.fetches c.loop-one.nodes)
    (GathersAll (g.G.Gather.gathers x) c.args.into.now c.loop-one.into c.loop-one.below.items)) whole
    c.loop-one.invariant.all in
    let digest = subst (λ v. hash (preimage_of v (Inner c.deref-one-items.result.now)) ≡ c.args.child.now.digest)
    c.requires.version shows.digest in
    inner_walked x hash s c.args.root c.args.child.now c.deref-one-items.result.now c.args.seen.now c.loop-one.seen
    (g.N.Nodes.fetches c.args.nodes.now) (g.N.Nodes.fetches c.loop-one.nodes) _ _ c.requires.may shows digest
    (subst IsView is c.in_ok-look.ensures.views)
    (subst (λ n. fits_entry c.args.version c.args.root c.args.child.now n ≡ true) is c.in_ok-look.ensures.fits)
    suits all
    (λ fit us made. subst (λ d. g.G.Gather.gathers x c.args.into.now c.inner.new.self d (tree.Inner us))
    (sym c.moved_to.ensures) (c.in_ok-id.ensures.gathers x c.args.into.now c.args.root c.deref-one-items.result.now us
    fit (c.loop-one.invariant.same ∙ ap (map child_entry) whole) made))

pub returns-in_err-look-clause-blames : goal.returns-in_err-look-clause-blames
returns-in_err-look-clause-blames g t c =
    let p = err_from_is_err_and c.from_residual.result c.from_residual.ensures.1 in
    rw (p.1, p.2) (λ pages ns saw. look_stops g.N.Hash.Hashes.of (g.N.Nodes.stands c.args.nodes.now)
    (g.N.Nodes.asked c.look.new.nodes) c.args.root ns c.args.child.now c.look.new.view
    (g.N.Nodes.refusal c.look.new.nodes) c.in_err-look.field-0.0 c.look.ensures.asks c.in_err-look.ensures.blames)

pub returns-then-level-eq0-clause-blames : goal.returns-then-level-eq0-clause-blames
returns-then-level-eq0-clause-blames g t c =
    let s = g.N.Nodes.stands c.args.nodes.now in
    let hash = g.N.Hash.Hashes.of in
    let is = c.records.ensures.leaf (sym c.level.ensures.value ∙ c.if-level-eq0.true)
    ∙ ap Leaf (sym c.records.ensures.value) in
    if_err c.walk_leaf.result _ _
    (λ e h pages ns saw. leaf_stops hash s (g.N.Nodes.asked c.look.new.nodes) c.args.root pages ns c.args.child.now
    c.records.result.now c.args.seen.now (g.N.Nodes.refusal c.look.new.nodes) e c.look.ensures.asks
    (subst (ShowsNode hash s c.args.child.now) is c.in_ok-look.ensures.shows)
    (subst IsView is c.in_ok-look.ensures.views) saw h) c.walk_leaf.ensures.twice

pub returns-in_err-made-clause-blames : goal.returns-in_err-made-clause-blames
returns-in_err-made-clause-blames g t c =
    let s = g.N.Nodes.stands c.args.nodes.now in
    let hash = g.N.Hash.Hashes.of in
    let high : 0 < c.level.result = omega (arith, c.if-level-eq0.false) in
    let own : c.deref-one-items.result.now ≡ c.children.result.now = search rules in
    let is = c.children.ensures.inner (subst (λ n. 0 < n) c.level.ensures.value high)
    ∙ ap Inner (sym (own ∙ c.children.ensures.value)) in
    let same = g.met.N.Nodes.kept_stands c.args.nodes.now c.loop-one.nodes c.loop-one.invariant.kept in
    let shows = subst (ShowsNode hash s c.args.child.now) is c.in_ok-look.ensures.shows in
    let all = c.loop-one.invariant.all in
    let p = err_from_is_err_and c.from_residual-in_err-made.result c.from_residual-in_err-made.ensures.1 in
    rw (p.1, p.2) (λ pages ns saw. below_stops hash s (g.N.Nodes.asked c.walk.new.nodes)
    c.args.version (g.N.Nodes.stands c.loop-one.nodes) c.args.root
    c.args.child.now c.one-item.result c.deref-one-items.result.now c.loop-one.one-index all.below ns
    (g.N.Nodes.refusal c.walk.new.nodes) c.in_err-made.field-0.0 c.requires.version same shows
    (subst IsView is c.in_ok-look.ensures.views)
    (subst (λ n. fits_entry c.args.version c.args.root c.args.child.now n ≡ true) is c.in_ok-look.ensures.fits)
    c.loop-one-test.true c.one-item.is all.known all.fine (all.met pages ns saw).0
    (c.in_err-made.ensures.blames pages (ns ++ numbers_of (flat_map records all.below)) (all.met pages ns saw).1))
