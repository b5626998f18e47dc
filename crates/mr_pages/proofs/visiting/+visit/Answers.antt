use Rattle.std.proofs.Common.{[], false, arith, ◌≡◌, ◌<◌, ◌≤◌, length, map, inl, inr, ap, refl, sym, subst, take, ◌∙◌}
use Rattle.std.specs.Prelude.{Some, Ok, Err, All}
use Rattle.std.proofs.Math.Seq.{take-length}
use Rattle.std.proofs.lemmas.List.{take_all}
use Rattle.std.proofs.lemmas.List.Elements.{All-nil, All-more}
use Rattle.std.proofs.lemmas.Result.{err_from_is_err_and}
use Rattle.mr_tree.specs.Digest.{by}
use Rattle.mr_tree.specs.declared.child.Child.{Child}
use Rattle.mr_pages.specs.Walking.{child_link, page_node, owned}
use Rattle.mr_pages.specs.Source.{MatchesChild}
use Rattle.mr_pages.specs.Gathering.{AreMade, SuitsChild}
use Rattle.mr_pages.specs.declared.node.Node.TheVariants as owned_node
use Rattle.mr_pages.specs.Stands.{tree_of}
use Rattle.mr_pages.specs.private.Spelled.{place}
use Rattle.mr_tree.specs.declared.tree.Tree.TheOpen.{Inner}
use Rattle.mr_pages.proofs.Building.{what_is_found}
use Rattle.mr_pages.proofs.Giving.{err_settles, gives_none, gives_one, gives_so, gives_still, gives_next}
use Rattle.mr_pages.proofs.Walks.{AtInner, refused_at_entry, number_refused, inner_starts}
use Rattle.mr_pages.proofs.Visits.{look_refuses, leaf_passes, inner_known, before_child, child_refuses, child_passes, inner_passes, goes_step, goes_first, along, if_some, leaf_made, child_made, inner_made}
use Rattle.mr_pages.proofs.visiting.+visit.Goals as goal

pub returns-in-Some-clause-told : goal.returns-in-Some-clause-told
returns-in-Some-clause-told g t c =
    gives_none (g.P.Source.state c.args.pages.now) c.args.seen.now c.enter.new.self _ c.in-Some.ensures.step
    (λ f. record {
      walks = λ before saw. refused_at_entry
          (by (g.P.Source.state c.args.pages.now).origin.form.version g.P.Hash.Hashes.of)
          (g.P.Source.state c.args.pages.now).pages
          f.node before c.args.root (child_link c.args.child.now) _ (c.in-Some.ensures.told _ _ _ saw);
      made = tt;
    })

pub returns-in_err-records-clause-told : goal.returns-in_err-records-clause-told
returns-in_err-records-clause-told g t c =
    let p = err_from_is_err_and c.from_residual.result c.from_residual.ensures.1 in
    let s = g.P.Source.state c.args.pages.now in
    rw (p.1, p.2) (err_settles (Unit {0}) (Unit {0}) c.in_err-records.field-0.0 c.in_err-records.ensures.told (λ gave.
    gives_so s c.args.seen.now c.enter.new.self _ _ (λ f looked. record {
      walks = λ before saw. look_refuses (Unit {0})
          (by (g.P.Source.state c.args.pages.now).origin.form.version g.P.Hash.Hashes.of) s.pages f.node
          before c.args.root
          (child_link c.args.child.now) c.in_err-records.field-0.0 c.enter.new.self
          (c.in_default.ensures.told _ _ _ saw).0 looked;
      made = tt;
    }) (gives_one s c.args.seen.now c.enter.new.self c.args.child.now.id _ c.in_default.ensures.step gave)))

pub returns-then-branch-clause-told : goal.returns-then-branch-clause-told
returns-then-branch-clause-told g t c =
    let s = g.P.Source.state c.args.pages.now in
    gives_still s c.args.seen.now c.enter.new.self c.meet.new.self _ c.meet.ensures.same
    (gives_so s c.args.seen.now c.enter.new.self _ _ (λ f looked. record {
      walks = λ before saw.
          let entered = c.in_default.ensures.told _ _ _ saw in
          number_refused (by (g.P.Source.state c.args.pages.now).origin.form.version g.P.Hash.Hashes.of) s.pages f.node
          before c.args.root
          (child_link c.args.child.now) c.in-Leaf.records.items c.deref.result.now c.in_ok-meet-in-Leaf.field-0
          entered.0 looked.0 (looked.1 ∙ ap (λ n. Some (page_node (owned n))) c.in-Leaf.is) c.deref.ensures.value
          (c.in_ok-meet-in-Leaf.ensures.told _ _ _ entered.1).0 c.if-branch.true;
      made = tt;
    }) (gives_one s c.args.seen.now c.enter.new.self c.args.child.now.id _ c.in_default.ensures.step
    c.in_ok-records.ensures.told))

pub returns-in_ok-make-in-Leaf-clause-told : goal.returns-in_ok-make-in-Leaf-clause-told
returns-in_ok-make-in-Leaf-clause-told g t c =
    let s = g.P.Source.state c.args.pages.now in
    gives_still s c.args.seen.now c.enter.new.self c.meet.new.self _ c.meet.ensures.same
    (gives_so s c.args.seen.now c.enter.new.self _ _ (λ f looked. record {
      walks = λ before saw.
          let entered = c.in_default.ensures.told _ _ _ saw in
          leaf_passes (by (g.P.Source.state c.args.pages.now).origin.form.version g.P.Hash.Hashes.of) s.pages f.node
          before c.args.root
          (child_link c.args.child.now) c.in-Leaf.records.items c.deref.result.now c.in_ok-meet-in-Leaf.field-0
          c.meet.new.self entered.0 looked.0 (looked.1 ∙ ap (λ n. Some (page_node (owned n))) c.in-Leaf.is)
          c.deref.ensures.value (c.in_ok-meet-in-Leaf.ensures.told _ _ _ entered.1) c.if-branch.false;
      made = leaf_made (by s.origin.form.version g.P.Hash.Hashes.of) g.P.Source.makes f.node c.args.root
          c.args.child.now (owned_node.Leaf c.in-Leaf.records) c.in-Leaf.records.items
          (g.P.Source.held c.args.pages.now)
          (g.P.Source.held c.read_checked.new.pages) (g.P.Source.held c.make.new.self) c.new.result.items
          c.in_ok-make-in-Leaf.field-0
          (looked.1 ∙ ap (λ n. Some (page_node (owned n))) c.in-Leaf.is) refl (λ ts. refl)
          c.new.ensures.items c.read_checked.ensures.holds
          (subst (SuitsChild (by s.origin.form.version g.P.Hash.Hashes.of) c.args.root c.args.child.now) c.in-Leaf.is
          c.in_ok-records.ensures.suits)
          c.in_ok-make-in-Leaf.ensures.made;
    }) (gives_one s c.args.seen.now c.enter.new.self c.args.child.now.id _ c.in_default.ensures.step
    c.in_ok-records.ensures.told))

pub loop-one-init : goal.loop-one-init
loop-one-init g t c = record {
  told =
      let s = g.P.Source.state c.args.pages.now in
      gives_so s c.args.seen.now c.enter.new.self _ _ (λ f looked.
      let inner = inner_known (by (g.P.Source.state c.args.pages.now).origin.form.version g.P.Hash.Hashes.of) f.node
      c.args.root c.args.child.now c.in_ok-records.field-0
      c.in-Inner.children.items c.in_ok-records.ensures.known (ap owned c.in-Inner.is) looked.1 in
      record {
        inner = subst (λ cs. AtInner f.node c.args.root (child_link c.args.child.now) (map child_link cs))
            (sym c.deref-one-items.ensures.value) inner;
        passed = λ before saw.
            let entered = c.in_default.ensures.told _ _ _ saw in
            inner_starts (by (g.P.Source.state c.args.pages.now).origin.form.version g.P.Hash.Hashes.of) s.pages f.node
            before c.args.root
            (child_link c.args.child.now) (map child_link c.in-Inner.children.items)
            c.enter.new.self entered.0 entered.1 looked.0
            (looked.1 ∙ ap (λ n. Some (page_node (owned n))) c.in-Inner.is);
        made = subst (λ xs. AreMade (g.P.Source.makes (by s.origin.form.version g.P.Hash.Hashes.of) false)
            (g.P.Source.held c.args.pages.now) (g.P.Source.held c.read_checked.new.pages) [] xs [])
            (sym c.new-below.ensures.items) c.read_checked.ensures.holds;
      })
      (gives_one s c.args.seen.now c.enter.new.self c.args.child.now.id _ c.in_default.ensures.step
      c.in_ok-records.ensures.told);
  room = c.in_default.ensures.step.size;
  goes = goes_first c.in_ok-records.field-0 _ _ _ _ c.in_ok-records.ensures.goes c.in_default.ensures.step.one;
  kept = λ page on. elim (c.in_default.ensures.step.others page on) [
    | inl old ↦ inl old
    | inr here ↦ inr (inl here)
  ];
  inside = All-nil _;
  stay = c.read_checked.ensures.stay;
}

pub returns-in_err-made-in-Inner-clause-told : goal.returns-in_err-made-in-Inner-clause-told
returns-in_err-made-in-Inner-clause-told g t c =
    let p = err_from_is_err_and c.from_residual-in_err-made-in-Inner.result
    c.from_residual-in_err-made-in-Inner.ensures.1 in
    let s = g.P.Source.state c.args.pages.now in
    let e = c.in_err-made-in-Inner.field-0.0 in
    let items = c.deref-one-items.result.now in
    rw (p.1, p.2) (err_settles (Unit {0}) (Unit {0}) e c.in_err-made-in-Inner.ensures.told (λ gave.
    gives_so s c.args.seen.now c.visit.new.seen _ _ (λ f both. record {
      walks = λ before saw.
          let so_far = both.0.passed before saw in
          child_refuses (Unit {0}) (Unit {0})
          (by (g.P.Source.state c.args.pages.now).origin.form.version g.P.Hash.Hashes.of) s.pages
          f.node before c.args.root (child_link c.args.child.now) items items
          c.loop-one.seen c.visit.new.seen c.loop-one.one-index c.one-item.result e both.0.inner
          refl c.loop-one-test.true c.one-item.is so_far
          (along (Unit {0}) _ (by (g.P.Source.state c.args.pages.now).origin.form.version g.P.Hash.Hashes.of)
          (g.P.Source.state c.loop-one.pages).pages
          s.pages f.node
          (before_child f.node before c.args.root (child_link c.args.child.now)
          (take c.loop-one.one-index items)) false (child_link c.one-item.result)
          (Err e) c.loop-one.seen c.visit.new.seen _ _
          (ap (λ o. by o.form.version g.P.Hash.Hashes.of) c.loop-one.invariant.goes.from_)
          c.loop-one.invariant.goes.count
          (both.1.walks (before_child f.node before c.args.root (child_link c.args.child.now)
          (take c.loop-one.one-index items))) so_far.saw);
      made = tt;
    }) (gives_next s (g.P.Source.state c.loop-one.pages) c.args.seen.now c.loop-one.seen c.visit.new.seen _ _
    c.loop-one.invariant.goes.from_ c.loop-one.invariant.goes.same c.loop-one.invariant.told gave)))

pub loop-one-preserved : goal.loop-one-preserved
loop-one-preserved g t c = record {
  told =
      let s = g.P.Source.state c.args.pages.now in
      let items = c.deref-one-items.result.now in
      gives_so s c.args.seen.now c.visit.new.seen _ _ (λ f both. record {
        inner = both.0.inner;
        passed = λ before saw.
            let so_far = both.0.passed before saw in
            child_passes (by (g.P.Source.state c.args.pages.now).origin.form.version g.P.Hash.Hashes.of) s.pages
            f.node before c.args.root (child_link c.args.child.now) items
            items c.loop-one.seen c.visit.new.seen c.loop-one.one-index c.one-item.result both.0.inner
            refl c.loop-one-test.true c.one-item.is so_far
            (along (Unit {0}) _ (by (g.P.Source.state c.args.pages.now).origin.form.version g.P.Hash.Hashes.of)
            (g.P.Source.state c.loop-one.pages).pages
            s.pages f.node _ _ _ (Ok tt) c.loop-one.seen _ _ _
            (ap (λ o. by o.form.version g.P.Hash.Hashes.of) c.loop-one.invariant.goes.from_)
            c.loop-one.invariant.goes.count
            (both.1.walks (before_child f.node before c.args.root (child_link c.args.child.now)
            (take c.loop-one.one-index items))) so_far.saw);
        made = child_made (by s.origin.form.version g.P.Hash.Hashes.of) g.P.Source.makes f.node c.args.root
            c.args.child.now items items (g.P.Source.held c.args.pages.now) (g.P.Source.held c.loop-one.pages)
            (g.P.Source.held c.visit.new.pages) c.loop-one.below.items c.push.new.self.items
            c.in_ok-made-in-Inner.made
            c.loop-one.one-index c.one-item.result both.0.inner refl c.loop-one-test.true c.one-item.is
            both.0.made
            (subst (λ o. g.P.Source.makes (by o.form.version g.P.Hash.Hashes.of) false
            (g.P.Source.held c.loop-one.pages) (g.P.Source.held c.visit.new.pages) c.one-item.result
            c.in_ok-made-in-Inner.made
            (tree_of (place f.node c.one-item.result.level (child_link c.one-item.result))))
            c.loop-one.invariant.goes.from_ both.1.made) c.in_ok-push-in-Inner.ensures.items;
      }) (gives_next s (g.P.Source.state c.loop-one.pages) c.args.seen.now c.loop-one.seen c.visit.new.seen _ _
      c.loop-one.invariant.goes.from_ c.loop-one.invariant.goes.same c.loop-one.invariant.told
      c.in_ok-made-in-Inner.ensures.told);
  room = c.visit.ensures.room ∙ c.loop-one.invariant.room;
  goes = goes_step c.in_ok-made-in-Inner.made _ _ _ _ _ _ c.loop-one.invariant.goes
      c.in_ok-made-in-Inner.ensures.goes;
  kept = λ page on. elim (c.in_ok-made-in-Inner.ensures.kept page on) [
    | inl old ↦ elim (c.loop-one.invariant.kept page old) [
      | inl first ↦ inl first
      | inr rest ↦ elim rest [
        | inl here ↦ inr (inl here)
        | inr kept ↦ inr (inr (c.visit.ensures.stay page kept))
      ]
    ]
    | inr new ↦ inr (inr new)
  ];
  inside = All-more (λ (d : Child). (1 ≤ d.id) × (d.id < (g.P.Source.state c.args.pages.now).pages))
      c.deref-one-items.result.now c.loop-one.one-index c.one-item.result c.loop-one-test.true
      c.loop-one.invariant.inside
      (subst (λ (d : Child). (1 ≤ d.id) × (d.id < (g.P.Source.state c.args.pages.now).pages)) c.one-item.is (
        c.in_ok-made-in-Inner.ensures.inside.0,
        subst (λ n. c.one-item.result.id < n) c.loop-one.invariant.goes.count c.in_ok-made-in-Inner.ensures.inside.1,
      ));
  stay = λ page kept. c.visit.ensures.stay page (c.loop-one.invariant.stay page kept);
}

pub make-requires-in-Inner : goal.make-requires-in-Inner
make-requires-in-Inner g t c =
    let pages = c.loop-one.invariant.goes.count in
    record {
      known = subst (λ o. MatchesChild (by o.form.version g.P.Hash.Hashes.of) c.args.child.now
          (owned_node.Inner c.in-Inner.children)) (sym c.loop-one.invariant.goes.from_)
          (subst (MatchesChild (by (g.P.Source.state c.args.pages.now).origin.form.version g.P.Hash.Hashes.of)
          c.args.child.now) c.in-Inner.is c.in_ok-records.ensures.known);
      low = c.in_default.ensures.step.low;
      place = omega (arith, c.in_default.ensures.step.inside, c.requires, pages);
      inside = subst (λ n. All (λ (d : Child). (1 ≤ d.id) × (d.id < n)) c.in-Inner.children.items) (sym pages)
          (subst (λ xs. All (λ (d : Child). (1 ≤ d.id) × (d.id < (g.P.Source.state c.args.pages.now).pages)) xs)
          (take_all c.loop-one.one-index c.deref-one-items.result.now (omega arith) ∙ c.deref-one-items.ensures.value)
          c.loop-one.invariant.inside);
      told = if_some (g.P.Source.state c.loop-one.pages).file _ (λ f e.
          let looked = c.in_ok-records.ensures.told.so f (inl (sym c.loop-one.invariant.goes.same ∙ e)) in
          (what_is_found f.node (child_link c.args.child.now) _ looked.1).there
          ∙ ap (λ n. Some (page_node (owned n))) c.in-Inner.is);
    }

pub returns-in_ok-make-in-Inner-clause-told : goal.returns-in_ok-make-in-Inner-clause-told
returns-in_ok-make-in-Inner-clause-told g t c =
    let s = g.P.Source.state c.args.pages.now in
    let items = c.deref-one-items.result.now in
    let end : c.loop-one.one-index ≡ length items = omega arith in
    let whole : take c.loop-one.one-index items ≡ items = ap (λ n. take n items) end ∙ take-length items in
    gives_so s c.args.seen.now c.loop-one.seen _ _ (λ f so_far. record {
      walks = λ before saw. inner_passes (by (g.P.Source.state c.args.pages.now).origin.form.version g.P.Hash.Hashes.of)
          s.pages f.node before c.args.root
          (child_link c.args.child.now) items items c.loop-one.seen
          c.loop-one.one-index so_far.inner refl whole (so_far.passed before saw);
      made = inner_made (by s.origin.form.version g.P.Hash.Hashes.of) g.P.Source.makes f.node c.args.root
          c.args.child.now (owned_node.Inner c.in-Inner.children) items items (g.P.Source.held c.args.pages.now)
          (g.P.Source.held c.loop-one.pages) (g.P.Source.held c.make-in-Inner.new.self) c.loop-one.below.items
          c.in_ok-make-in-Inner.field-0 c.loop-one.one-index so_far.inner
          refl whole (ap Inner (sym c.deref-one-items.ensures.value)) (λ ts. refl) so_far.made
          (subst (SuitsChild (by s.origin.form.version g.P.Hash.Hashes.of) c.args.root c.args.child.now) c.in-Inner.is
          c.in_ok-records.ensures.suits) c.in_ok-make-in-Inner.ensures.made;
    }) c.loop-one.invariant.told
