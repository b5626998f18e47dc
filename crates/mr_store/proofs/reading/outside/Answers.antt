use Rattle.std.proofs.Common.{inl, inr, sym}
use Rattle.mr_store.proofs.PageReads.{more_in, all_in, none_outside, first_outside}
use Rattle.mr_store.proofs.reading.outside.Goals as goal
use Rattle.mr_store.proofs.reading.outside.Goals.{then-child-eq0-via-then-child-eq0, then-child-eq0-via-else-child-eq0+then-child-pages}

pub loop-child-preserved : goal.loop-child-preserved
loop-child-preserved c =
    more_in c.args.pages c.children-children.result.now c.loop-child.child-index c.child-item.result
    c.loop-child-test.true c.child-item.is c.loop-child.invariant c.if-child-eq0.false c.if-child-pages.false

pub returns-then-child-eq0-clause-first : goal.returns-then-child-eq0-clause-first
returns-then-child-eq0-clause-first c =
    sym (first_outside c.args.pages c.args.view.now c.children-children.result.now c.loop-child.child-index
    c.child-item.result c.children-children.ensures.value c.loop-child.invariant c.loop-child-test.true c.child-item.is
    (elim c.then-child-eq0.branch [
      | then-child-eq0-via-then-child-eq0 w ↦ inl w.if-child-eq0.true
      | then-child-eq0-via-else-child-eq0+then-child-pages w ↦ inr w.if-child-pages.true
    ]))

pub returns-clause-far : goal.returns-clause-far
returns-clause-far c =
    all_in c.args.pages c.args.view.now c.children-children.result.now c.loop-child.child-index
    c.children-children.ensures.value c.loop-child-test.false c.loop-child.invariant

pub returns-clause-first : goal.returns-clause-first
returns-clause-first c =
    sym (none_outside c.args.pages c.args.view.now
    (all_in c.args.pages c.args.view.now c.children-children.result.now c.loop-child.child-index
    c.children-children.ensures.value c.loop-child-test.false c.loop-child.invariant))
