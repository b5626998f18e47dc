use Rattle.std.proofs.Common.{◌<◌, ◌+◌, refl, sym, ap, subst, ◌∙◌, arith}
use Rattle.std.specs.Prelude.{IfSome}
use Rattle.mr_tree.specs.declared.tree.Tree.TheOpen as node
use Rattle.mr_pages.specs.Walking.{page_node}
use Rattle.mr_edit.specs.PageMap.{HasNode}
use Rattle.mr_edit.specs.Causes.{KnowsBelow}
use Rattle.mr_edit.proofs.Looking.{can_look}
use Rattle.mr_edit.proofs.Sought.{known_child}
use Rattle.mr_edit.proofs.Sound.{never, handed}
use Rattle.mr_edit.specs.Counted.{ReadsNodesOnce}
use Rattle.mr_edit.proofs.FreeReads.{once_looked}
use Rattle.mr_edit.proofs.SearchReads.{once_seen}
use Rattle.mr_edit.proofs.Tries.{SeenOnce, seen_next, seen_none}
use Rattle.mr_edit.proofs.learning.+learn.Goals as goal

pub returns-in_err-read_checked-clause-blames_none_told : goal.returns-in_err-read_checked-clause-blames_none_told
returns-in_err-read_checked-clause-blames_none_told g t c =
    let scheme = g.F.PageFile.scheme in
    let told = g.F.PageFile.told c.args.pager.now.file in
    handed c.from_residual.result c.in_err-read_checked.field-0.0
    (KnowsBelow scheme c.args.root told c.args.pager.now.free c.args.child.now) c.from_residual.ensures.1
    (never c.in_err-read_checked.field-0.0 _ _
    (λ k. can_look scheme c.args.root told c.args.pager.now.free c.args.child.now k)
    c.in_err-read_checked.ensures.blames_none_told)

pub returns-in_err-learn-clause-blames_none_told : goal.returns-in_err-learn-clause-blames_none_told
returns-in_err-learn-clause-blames_none_told g t c =
    let scheme = g.F.PageFile.scheme in
    let told = g.F.PageFile.told c.args.pager.now.file in
    let cs = c.children-one-items.result.now in
    let high : 0 < c.level.result = omega (arith, c.if-level-eq0.false) in
    let is = c.children-one-items.ensures.inner (subst (λ n. 0 < n) c.level.ensures.value high)
    ∙ ap node.Inner (sym c.children-one-items.ensures.value) in
    let reads = subst (λ n. IfSome told (λ b. HasNode b c.args.child.now.id (page_node n))) is
    c.in_ok-read_checked.ensures.node in
    handed c.from_residual-in_err-learn.result c.in_err-learn.field-0.0
    (KnowsBelow scheme c.args.root told c.args.pager.now.free c.args.child.now) c.from_residual-in_err-learn.ensures.1
    (never c.in_err-learn.field-0.0 _ _
    (λ k. known_child scheme c.args.root told (g.F.PageFile.told c.loop-one.pager.file) c.args.pager.now.free
    c.loop-one.pager.free c.args.child.now c.loop-one.one-index cs c.one-item.result
    (c.loop-one.invariant.same ∙ c.in_ok-read_checked.ensures.same) c.loop-one.invariant.free reads c.loop-one-test.true
    c.one-item.is k) c.in_err-learn.ensures.blames_none_told)

pub loop-one-init : goal.loop-one-init
loop-one-init g t c = record {
  same = refl;
  free = refl;
  kept = g.met.F.PageFile.kept_self c.read_checked.new.file;
  quiet = refl;
  seen = seen_none g.F.PageFile.scheme (g.F.PageFile.told c.read_checked.new.file) c.children-one-items.result.now
      (g.F.PageFile.reads c.read_checked.new.file);
}

pub loop-one-preserved : goal.loop-one-preserved
loop-one-preserved g t c = record {
  same = c.learn.ensures.same ∙ c.loop-one.invariant.same;
  free = c.learn.ensures.free ∙ c.loop-one.invariant.free;
  kept = g.met.F.PageFile.kept_on c.read_checked.new.file c.loop-one.pager.file c.learn.new.pager.file
      c.loop-one.invariant.kept
      c.learn.ensures.kept;
  quiet = c.in_ok-learn.ensures.quiet ∙ c.loop-one.invariant.quiet;
  seen = seen_next g.F.PageFile.scheme (g.F.PageFile.told c.read_checked.new.file) c.children-one-items.result.now
      c.loop-one.one-index c.one-item.result (g.F.PageFile.reads c.read_checked.new.file)
      (g.F.PageFile.reads c.loop-one.pager.file) (g.F.PageFile.reads c.learn.new.pager.file) c.loop-one-test.true
      c.one-item.is c.loop-one.invariant.seen
      (subst (λ o. ReadsNodesOnce g.F.PageFile.scheme o c.one-item.result (g.F.PageFile.reads c.loop-one.pager.file)
      (g.F.PageFile.reads c.learn.new.pager.file)) c.loop-one.invariant.same c.learn.ensures.reads_at_most);
}

pub returns-in_err-read_checked-clause-reads_at_most : goal.returns-in_err-read_checked-clause-reads_at_most
returns-in_err-read_checked-clause-reads_at_most g t c =
    once_looked g.F.PageFile.scheme (g.F.PageFile.told c.args.pager.now.file) c.args.child.now
    (g.F.PageFile.reads c.args.pager.now.file) (g.F.PageFile.reads c.read_checked.new.file) c.read_checked.ensures.reads

pub returns-in_err-saw_leaf-clause-reads_at_most : goal.returns-in_err-saw_leaf-clause-reads_at_most
returns-in_err-saw_leaf-clause-reads_at_most g t c =
    once_looked g.F.PageFile.scheme (g.F.PageFile.told c.args.pager.now.file) c.args.child.now
    (g.F.PageFile.reads c.args.pager.now.file) (g.F.PageFile.reads c.read_checked.new.file) c.read_checked.ensures.reads

pub returns-in_ok-saw_leaf-clause-reads_at_most : goal.returns-in_ok-saw_leaf-clause-reads_at_most
returns-in_ok-saw_leaf-clause-reads_at_most g t c =
    once_looked g.F.PageFile.scheme (g.F.PageFile.told c.args.pager.now.file) c.args.child.now
    (g.F.PageFile.reads c.args.pager.now.file) (g.F.PageFile.reads c.read_checked.new.file) c.read_checked.ensures.reads

pub returns-in_err-saw_children-clause-reads_at_most : goal.returns-in_err-saw_children-clause-reads_at_most
returns-in_err-saw_children-clause-reads_at_most g t c =
    once_looked g.F.PageFile.scheme (g.F.PageFile.told c.args.pager.now.file) c.args.child.now
    (g.F.PageFile.reads c.args.pager.now.file) (g.F.PageFile.reads c.read_checked.new.file) c.read_checked.ensures.reads

pub returns-in_err-learn-clause-reads_at_most : goal.returns-in_err-learn-clause-reads_at_most
returns-in_err-learn-clause-reads_at_most g t c =
    let told = g.F.PageFile.told c.args.pager.now.file in
    let cs = c.children-one-items.result.now in
    let high : 0 < c.level.result = omega (arith, c.if-level-eq0.false) in
    let is = c.children-one-items.ensures.inner (subst (λ n. 0 < n) c.level.ensures.value high)
    ∙ ap node.Inner (sym c.children-one-items.ensures.value) in
    let reads = subst (λ n. IfSome told (λ b. HasNode b c.args.child.now.id (page_node n))) is
    c.in_ok-read_checked.ensures.node in
    let seen = seen_next g.F.PageFile.scheme (g.F.PageFile.told c.read_checked.new.file) c.children-one-items.result.now
    c.loop-one.one-index c.one-item.result (g.F.PageFile.reads c.read_checked.new.file)
    (g.F.PageFile.reads c.loop-one.pager.file) (g.F.PageFile.reads c.learn.new.pager.file) c.loop-one-test.true
    c.one-item.is c.loop-one.invariant.seen
    (subst (λ o. ReadsNodesOnce g.F.PageFile.scheme o c.one-item.result (g.F.PageFile.reads c.loop-one.pager.file)
    (g.F.PageFile.reads c.learn.new.pager.file)) c.loop-one.invariant.same c.learn.ensures.reads_at_most) in
    once_seen g.F.PageFile.scheme told c.args.child.now cs (c.loop-one.one-index + 1)
    (g.F.PageFile.reads c.args.pager.now.file) (g.F.PageFile.reads c.read_checked.new.file)
    (g.F.PageFile.reads c.learn.new.pager.file) reads c.read_checked.ensures.reads
    (subst (λ o. SeenOnce g.F.PageFile.scheme o cs (c.loop-one.one-index + 1)
    (g.F.PageFile.reads c.read_checked.new.file) (g.F.PageFile.reads c.learn.new.pager.file))
    c.in_ok-read_checked.ensures.same seen)

pub returns-after-loop-one-clause-reads_at_most : goal.returns-after-loop-one-clause-reads_at_most
returns-after-loop-one-clause-reads_at_most g t c =
    let told = g.F.PageFile.told c.args.pager.now.file in
    let cs = c.children-one-items.result.now in
    let high : 0 < c.level.result = omega (arith, c.if-level-eq0.false) in
    let is = c.children-one-items.ensures.inner (subst (λ n. 0 < n) c.level.ensures.value high)
    ∙ ap node.Inner (sym c.children-one-items.ensures.value) in
    let reads = subst (λ n. IfSome told (λ b. HasNode b c.args.child.now.id (page_node n))) is
    c.in_ok-read_checked.ensures.node in
    once_seen g.F.PageFile.scheme told c.args.child.now cs c.loop-one.one-index
    (g.F.PageFile.reads c.args.pager.now.file) (g.F.PageFile.reads c.read_checked.new.file)
    (g.F.PageFile.reads c.loop-one.pager.file) reads c.read_checked.ensures.reads
    (subst (λ o. SeenOnce g.F.PageFile.scheme o cs c.loop-one.one-index
    (g.F.PageFile.reads c.read_checked.new.file) (g.F.PageFile.reads c.loop-one.pager.file))
    c.in_ok-read_checked.ensures.same
    c.loop-one.invariant.seen)
