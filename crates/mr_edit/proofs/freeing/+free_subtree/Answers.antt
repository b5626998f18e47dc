use Rattle.std.proofs.Common.{◌≡◌, false, refl, ◌+◌, ◌<◌, [], ◌∷◌, ◌++◌, take, sym, ap, subst, ◌∙◌, arith}
use Rattle.std.specs.Prelude.{IfSome}
use Rattle.std.proofs.lemmas.List.{take_all}
use Rattle.mr_tree.specs.View.{records_in}
use Rattle.mr_tree.specs.declared.tree.Tree.TheOpen as node
use Rattle.mr_pages.specs.Walking.{page_node}
use Rattle.mr_edit.specs.PageMap.{HasNode}
use Rattle.mr_edit.specs.private.Removal.{FreesSubtrees}
use Rattle.mr_edit.specs.private.Removable.{CanFree}
use Rattle.mr_edit.proofs.Caused.{handed_cause}
use Rattle.mr_edit.proofs.Freed.{frees_none, frees_more, frees_leaf, frees_inner}
use Rattle.mr_edit.proofs.FreeReads.{frees_nothing, frees_looked, frees_next, frees_part, frees_below}
use Rattle.mr_edit.proofs.Looking.{can_look}
use Rattle.mr_edit.proofs.Owners.{one_below, known_writes, children_below, next_below}
use Rattle.mr_edit.proofs.Sound.{never, handed}
use Rattle.mr_edit.proofs.freeing.+free_subtree.Goals as goal

pub loop-one-preserved : goal.loop-one-preserved
loop-one-preserved g t c = record {
  frees = frees_more g.F.PageFile.scheme (g.F.PageFile.told c.free_page.new.pager.file)
      (g.F.PageFile.told c.loop-one.pager.file) (g.F.PageFile.told c.free_subtree.new.pager.file)
      c.free_page.new.pager.free c.loop-one.pager.free c.free_subtree.new.pager.free
      c.children-one-items.result.now c.loop-one.one-index c.one-item.result c.args.list.now.items
      c.loop-one.list.items c.free_subtree.new.list.items c.loop-one-test.true c.one-item.is
      c.loop-one.invariant.frees c.in_ok-free_subtree.ensures.frees;
  layers = λ all. c.in_ok-free_subtree.ensures.layers (c.loop-one.invariant.layers all);
  once = frees_next g.F.PageFile.scheme (g.F.PageFile.told c.free_page.new.pager.file)
      (g.F.PageFile.told c.loop-one.pager.file) c.free_page.new.pager.free c.loop-one.pager.free
      c.children-one-items.result.now c.loop-one.one-index c.one-item.result c.args.list.now.items
      c.loop-one.list.items (g.F.PageFile.reads c.free_page.new.pager.file) (g.F.PageFile.reads c.loop-one.pager.file)
      (g.F.PageFile.reads c.free_subtree.new.pager.file) c.loop-one-test.true c.one-item.is c.loop-one.invariant.frees
      c.loop-one.invariant.once c.free_subtree.ensures.reads_at_most;
  kept = g.met.F.PageFile.kept_on c.free_page.new.pager.file c.loop-one.pager.file c.free_subtree.new.pager.file
      c.loop-one.invariant.kept c.free_subtree.ensures.kept;
  quiet = c.in_ok-free_subtree.ensures.quiet ∙ c.loop-one.invariant.quiet;
}

pub returns-in_ok-extend_from_slice-clause-frees : goal.returns-in_ok-extend_from_slice-clause-frees
returns-in_ok-extend_from_slice-clause-frees g t c =
    let view = c.read_checked.new.into in
    let rs = records_in view in
    let is = c.records.ensures.leaf (sym c.level.ensures.value ∙ c.if-level-eq0.true) in
    frees_leaf g.F.PageFile.scheme (g.F.PageFile.told c.args.pager.now.file) (g.F.PageFile.told c.read_checked.new.file)
    (g.F.PageFile.told c.free_page.new.pager.file) c.args.pager.now.free c.free_page.new.pager.free
    c.args.child.now rs c.args.list.now.items c.extend_from_slice.new.self.items c.in_ok-read_checked.ensures.same
    (subst (λ n. IfSome (g.F.PageFile.told c.args.pager.now.file) (λ b. HasNode b c.args.child.now.id (page_node n))) is
    c.in_ok-read_checked.ensures.node)
    c.in_ok-free_page.ensures.frees
    (c.in_ok-extend_from_slice.ensures.items ∙ ap (λ us. c.args.list.now.items ++ us) c.records.ensures.value)

pub returns-after-loop-one-clause-frees : goal.returns-after-loop-one-clause-frees
returns-after-loop-one-clause-frees g t c =
    let view = c.read_checked.new.into in
    let cs = c.children-one-items.result.now in
    let high : 0 < c.level.result = omega (arith, c.if-level-eq0.false) in
    let is = c.children-one-items.ensures.inner (subst (λ n. 0 < n) c.level.ensures.value high) in
    let all : take c.loop-one.one-index cs ≡ cs = take_all c.loop-one.one-index cs c.loop-one-test.false in
    frees_inner g.F.PageFile.scheme (g.F.PageFile.told c.args.pager.now.file)
    (g.F.PageFile.told c.read_checked.new.file)
    (g.F.PageFile.told c.free_page.new.pager.file) (g.F.PageFile.told c.loop-one.pager.file) c.args.pager.now.free
    c.free_page.new.pager.free c.loop-one.pager.free
    c.args.child.now cs c.args.list.now.items c.loop-one.list.items c.in_ok-read_checked.ensures.same
    (subst (λ n. IfSome (g.F.PageFile.told c.args.pager.now.file)
    (λ b. HasNode b c.args.child.now.id (page_node n))) (is
    ∙ ap node.Inner (sym c.children-one-items.ensures.value)) c.in_ok-read_checked.ensures.node)
    c.in_ok-free_page.ensures.frees
    (subst (λ us. FreesSubtrees g.F.PageFile.scheme (g.F.PageFile.told c.free_page.new.pager.file)
    c.free_page.new.pager.free
    (g.F.PageFile.told c.loop-one.pager.file) c.loop-one.pager.free us c.args.list.now.items c.loop-one.list.items)
    all c.loop-one.invariant.frees)

pub returns-in_err-read_checked-clause-blames_none_told : goal.returns-in_err-read_checked-clause-blames_none_told
returns-in_err-read_checked-clause-blames_none_told g t c =
    handed c.from_residual.result c.in_err-read_checked.field-0.0
    (CanFree g.F.PageFile.scheme (g.F.PageFile.told c.args.pager.now.file) c.args.pager.now.free
    (c.args.child.now ∷ [])) c.from_residual.ensures.1
    (never c.in_err-read_checked.field-0.0 _ _
    (λ k. can_look g.F.PageFile.scheme false (g.F.PageFile.told c.args.pager.now.file) c.args.pager.now.free
    c.args.child.now (one_below g.F.PageFile.scheme (g.F.PageFile.told c.args.pager.now.file) c.args.pager.now.free
    c.args.child.now k)) c.in_err-read_checked.ensures.blames_none_told)

pub returns-in_err-free_page-clause-blames_none_told : goal.returns-in_err-free_page-clause-blames_none_told
returns-in_err-free_page-clause-blames_none_told g t c =
    handed c.from_residual-in_err-free_page.result c.in_err-free_page.field-0.0
    (CanFree g.F.PageFile.scheme (g.F.PageFile.told c.args.pager.now.file) c.args.pager.now.free
    (c.args.child.now ∷ [])) c.from_residual-in_err-free_page.ensures.1
    (never c.in_err-free_page.field-0.0 _ _
    (λ k. known_writes g.F.PageFile.scheme false (g.F.PageFile.told c.args.pager.now.file)
    (g.F.PageFile.told c.read_checked.new.file) c.args.pager.now.free c.args.child.now c.in_ok-read_checked.ensures.same
    (one_below g.F.PageFile.scheme (g.F.PageFile.told c.args.pager.now.file) c.args.pager.now.free
    c.args.child.now k)) c.in_err-free_page.ensures.blames_none_told)

pub returns-in_err-free_subtree-clause-kept : goal.returns-in_err-free_subtree-clause-kept
returns-in_err-free_subtree-clause-kept g t c =
    g.met.F.PageFile.kept_on c.args.pager.now.file c.free_page.new.pager.file c.free_subtree.new.pager.file
    (g.met.F.PageFile.kept_on c.args.pager.now.file c.read_checked.new.file c.free_page.new.pager.file
    c.read_checked.ensures.kept c.free_page.ensures.kept)
    (g.met.F.PageFile.kept_on c.free_page.new.pager.file c.loop-one.pager.file c.free_subtree.new.pager.file
    c.loop-one.invariant.kept c.free_subtree.ensures.kept)

pub returns-in_err-free_subtree-clause-cause : goal.returns-in_err-free_subtree-clause-cause
returns-in_err-free_subtree-clause-cause g t c =
    handed_cause c.from_residual-in_err-free_subtree.result c.in_err-free_subtree.field-0.0
    (g.F.PageFile.faults c.args.pager.now.file) (g.F.PageFile.faults c.loop-one.pager.file)
    (g.F.PageFile.faults c.free_subtree.new.pager.file) c.from_residual-in_err-free_subtree.ensures.1
    (c.loop-one.invariant.quiet ∙ c.in_ok-free_page.ensures.quiet ∙ c.in_ok-read_checked.ensures.quiet)
    c.in_err-free_subtree.ensures.cause

pub returns-in_err-free_subtree-clause-blames_none_told : goal.returns-in_err-free_subtree-clause-blames_none_told
returns-in_err-free_subtree-clause-blames_none_told g t c =
    let view = c.read_checked.new.into in
    let cs = c.children-one-items.result.now in
    let high : 0 < c.level.result = omega (arith, c.if-level-eq0.false) in
    let is = c.children-one-items.ensures.inner (subst (λ n. 0 < n) c.level.ensures.value high) in
    handed c.from_residual-in_err-free_subtree.result c.in_err-free_subtree.field-0.0
    (CanFree g.F.PageFile.scheme (g.F.PageFile.told c.args.pager.now.file) c.args.pager.now.free
    (c.args.child.now ∷ [])) c.from_residual-in_err-free_subtree.ensures.1
    (never c.in_err-free_subtree.field-0.0 _ _
    (λ k. next_below g.F.PageFile.scheme (g.F.PageFile.told c.free_page.new.pager.file)
    (g.F.PageFile.told c.loop-one.pager.file) c.free_page.new.pager.free c.loop-one.pager.free cs
    c.loop-one.one-index c.one-item.result c.args.list.now.items c.loop-one.list.items
    c.loop-one-test.true c.one-item.is c.loop-one.invariant.frees
    (children_below g.F.PageFile.scheme (g.F.PageFile.told c.args.pager.now.file)
    (g.F.PageFile.told c.read_checked.new.file)
    (g.F.PageFile.told c.free_page.new.pager.file) c.args.pager.now.free c.free_page.new.pager.free c.args.child.now cs
    c.in_ok-read_checked.ensures.same
    (subst (λ n. IfSome (g.F.PageFile.told c.args.pager.now.file) (λ b. HasNode b c.args.child.now.id (page_node n)))
    (is ∙ ap node.Inner (sym c.children-one-items.ensures.value)) c.in_ok-read_checked.ensures.node)
    c.in_ok-free_page.ensures.frees
    (one_below g.F.PageFile.scheme (g.F.PageFile.told c.args.pager.now.file) c.args.pager.now.free
    c.args.child.now k)))
    c.in_err-free_subtree.ensures.blames_none_told)

pub loop-one-init : goal.loop-one-init
loop-one-init g t c = record {
  frees = frees_none g.F.PageFile.scheme (g.F.PageFile.told c.free_page.new.pager.file)
      c.free_page.new.pager.free c.args.list.now.items;
  layers = λ all. all;
  once = frees_nothing g.F.PageFile.scheme (g.F.PageFile.told c.free_page.new.pager.file)
      c.free_page.new.pager.free (g.F.PageFile.reads c.free_page.new.pager.file);
  kept = g.met.F.PageFile.kept_self c.free_page.new.pager.file;
  quiet = refl;
}

pub returns-in_err-read_checked-clause-reads_at_most : goal.returns-in_err-read_checked-clause-reads_at_most
returns-in_err-read_checked-clause-reads_at_most g t c =
    frees_looked g.F.PageFile.scheme (g.F.PageFile.told c.args.pager.now.file) c.args.pager.now.free
    c.args.child.now (g.F.PageFile.reads c.args.pager.now.file) (g.F.PageFile.reads c.read_checked.new.file)
    (omega (arith, c.read_checked.ensures.reads))

pub returns-in_err-free_page-clause-reads_at_most : goal.returns-in_err-free_page-clause-reads_at_most
returns-in_err-free_page-clause-reads_at_most g t c =
    frees_looked g.F.PageFile.scheme (g.F.PageFile.told c.args.pager.now.file) c.args.pager.now.free
    c.args.child.now (g.F.PageFile.reads c.args.pager.now.file) (g.F.PageFile.reads c.free_page.new.pager.file)
    (omega (arith, c.read_checked.ensures.reads, c.free_page.ensures.reads))

pub returns-in_err-extend_from_slice-clause-reads_at_most : goal.returns-in_err-extend_from_slice-clause-reads_at_most
returns-in_err-extend_from_slice-clause-reads_at_most g t c =
    frees_looked g.F.PageFile.scheme (g.F.PageFile.told c.args.pager.now.file) c.args.pager.now.free
    c.args.child.now (g.F.PageFile.reads c.args.pager.now.file) (g.F.PageFile.reads c.free_page.new.pager.file)
    (omega (arith, c.read_checked.ensures.reads, c.free_page.ensures.reads))

pub returns-in_ok-extend_from_slice-clause-reads_at_most : goal.returns-in_ok-extend_from_slice-clause-reads_at_most
returns-in_ok-extend_from_slice-clause-reads_at_most g t c =
    frees_looked g.F.PageFile.scheme (g.F.PageFile.told c.args.pager.now.file) c.args.pager.now.free
    c.args.child.now (g.F.PageFile.reads c.args.pager.now.file) (g.F.PageFile.reads c.free_page.new.pager.file)
    (omega (arith, c.read_checked.ensures.reads, c.free_page.ensures.reads))

pub returns-in_err-free_subtree-clause-reads_at_most : goal.returns-in_err-free_subtree-clause-reads_at_most
returns-in_err-free_subtree-clause-reads_at_most g t c =
    let view = c.read_checked.new.into in
    let cs = c.children-one-items.result.now in
    let high : 0 < c.level.result = omega (arith, c.if-level-eq0.false) in
    let is = c.children-one-items.ensures.inner (subst (λ n. 0 < n) c.level.ensures.value high) in
    frees_below g.F.PageFile.scheme (g.F.PageFile.told c.args.pager.now.file)
    (g.F.PageFile.told c.read_checked.new.file)
    (g.F.PageFile.told c.free_page.new.pager.file) c.args.pager.now.free c.free_page.new.pager.free c.args.child.now cs
    (g.F.PageFile.reads c.args.pager.now.file) (g.F.PageFile.reads c.free_page.new.pager.file)
    (g.F.PageFile.reads c.free_subtree.new.pager.file) c.in_ok-read_checked.ensures.same
    (subst (λ n. IfSome (g.F.PageFile.told c.args.pager.now.file)
    (λ b. HasNode b c.args.child.now.id (page_node n))) (is
    ∙ ap node.Inner (sym c.children-one-items.ensures.value)) c.in_ok-read_checked.ensures.node)
    c.in_ok-free_page.ensures.frees (omega (arith, c.read_checked.ensures.reads, c.free_page.ensures.reads))
    (frees_part g.F.PageFile.scheme (g.F.PageFile.told c.free_page.new.pager.file) c.free_page.new.pager.free cs
    (c.loop-one.one-index + 1) (g.F.PageFile.reads c.free_page.new.pager.file)
    (g.F.PageFile.reads c.free_subtree.new.pager.file)
    (frees_next g.F.PageFile.scheme (g.F.PageFile.told c.free_page.new.pager.file)
    (g.F.PageFile.told c.loop-one.pager.file) c.free_page.new.pager.free c.loop-one.pager.free cs c.loop-one.one-index
    c.one-item.result c.args.list.now.items c.loop-one.list.items (g.F.PageFile.reads c.free_page.new.pager.file)
    (g.F.PageFile.reads c.loop-one.pager.file) (g.F.PageFile.reads c.free_subtree.new.pager.file) c.loop-one-test.true
    c.one-item.is c.loop-one.invariant.frees c.loop-one.invariant.once c.free_subtree.ensures.reads_at_most))

pub returns-after-loop-one-clause-reads_at_most : goal.returns-after-loop-one-clause-reads_at_most
returns-after-loop-one-clause-reads_at_most g t c =
    let view = c.read_checked.new.into in
    let cs = c.children-one-items.result.now in
    let high : 0 < c.level.result = omega (arith, c.if-level-eq0.false) in
    let is = c.children-one-items.ensures.inner (subst (λ n. 0 < n) c.level.ensures.value high) in
    frees_below g.F.PageFile.scheme (g.F.PageFile.told c.args.pager.now.file)
    (g.F.PageFile.told c.read_checked.new.file)
    (g.F.PageFile.told c.free_page.new.pager.file) c.args.pager.now.free c.free_page.new.pager.free c.args.child.now cs
    (g.F.PageFile.reads c.args.pager.now.file) (g.F.PageFile.reads c.free_page.new.pager.file)
    (g.F.PageFile.reads c.loop-one.pager.file) c.in_ok-read_checked.ensures.same
    (subst (λ n. IfSome (g.F.PageFile.told c.args.pager.now.file)
    (λ b. HasNode b c.args.child.now.id (page_node n))) (is
    ∙ ap node.Inner (sym c.children-one-items.ensures.value)) c.in_ok-read_checked.ensures.node)
    c.in_ok-free_page.ensures.frees (omega (arith, c.read_checked.ensures.reads, c.free_page.ensures.reads))
    (frees_part g.F.PageFile.scheme (g.F.PageFile.told c.free_page.new.pager.file) c.free_page.new.pager.free cs
    c.loop-one.one-index (g.F.PageFile.reads c.free_page.new.pager.file) (g.F.PageFile.reads c.loop-one.pager.file)
    c.loop-one.invariant.once)
