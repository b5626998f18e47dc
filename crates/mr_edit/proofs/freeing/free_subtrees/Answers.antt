use Rattle.std.proofs.Common.{◌+◌, refl, ◌∙◌, subst}
use Rattle.std.proofs.lemmas.List.{take_all}
use Rattle.mr_edit.specs.private.Removal.{FreesSubtrees}
use Rattle.mr_edit.specs.private.Removable.{CanFree}
use Rattle.mr_edit.proofs.Caused.{handed_cause}
use Rattle.mr_edit.proofs.Freed.{frees_none, frees_more}
use Rattle.mr_edit.proofs.FreeReads.{frees_nothing, frees_next, frees_part}
use Rattle.mr_edit.proofs.Owners.{next_below}
use Rattle.mr_edit.proofs.Sound.{never, handed}
use Rattle.mr_edit.proofs.freeing.free_subtrees.Goals as goal

pub loop-child-preserved : goal.loop-child-preserved
loop-child-preserved g c = record {
  frees = frees_more g.F.PageFile.scheme (g.F.PageFile.told c.args.pager.now.file)
      (g.F.PageFile.told c.loop-child.pager.file) (g.F.PageFile.told c.free_subtree.new.pager.file)
      c.args.pager.now.free
      c.loop-child.pager.free c.free_subtree.new.pager.free
      c.args.children.now c.loop-child.child-index c.child-item.result c.args.list.now.items c.loop-child.list.items
      c.free_subtree.new.list.items c.loop-child-test.true c.child-item.is c.loop-child.invariant.frees
      c.in_ok-free_subtree.ensures.frees;
  layers = λ all. c.in_ok-free_subtree.ensures.layers (c.loop-child.invariant.layers all);
  once = frees_next g.F.PageFile.scheme (g.F.PageFile.told c.args.pager.now.file)
      (g.F.PageFile.told c.loop-child.pager.file) c.args.pager.now.free c.loop-child.pager.free c.args.children.now
      c.loop-child.child-index c.child-item.result c.args.list.now.items c.loop-child.list.items
      (g.F.PageFile.reads c.args.pager.now.file) (g.F.PageFile.reads c.loop-child.pager.file)
      (g.F.PageFile.reads c.free_subtree.new.pager.file) c.loop-child-test.true c.child-item.is
      c.loop-child.invariant.frees c.loop-child.invariant.once c.free_subtree.ensures.reads_at_most;
  kept = g.met.F.PageFile.kept_on c.args.pager.now.file c.loop-child.pager.file c.free_subtree.new.pager.file
      c.loop-child.invariant.kept c.free_subtree.ensures.kept;
  quiet = c.in_ok-free_subtree.ensures.quiet ∙ c.loop-child.invariant.quiet;
}

pub returns-in_err-free_subtree-clause-kept : goal.returns-in_err-free_subtree-clause-kept
returns-in_err-free_subtree-clause-kept g c =
    g.met.F.PageFile.kept_on c.args.pager.now.file c.loop-child.pager.file c.free_subtree.new.pager.file
    c.loop-child.invariant.kept c.free_subtree.ensures.kept

pub returns-in_err-free_subtree-clause-cause : goal.returns-in_err-free_subtree-clause-cause
returns-in_err-free_subtree-clause-cause g c =
    handed_cause c.from_residual.result c.in_err-free_subtree.field-0.0
    (g.F.PageFile.faults c.args.pager.now.file) (g.F.PageFile.faults c.loop-child.pager.file)
    (g.F.PageFile.faults c.free_subtree.new.pager.file) c.from_residual.ensures.1
    c.loop-child.invariant.quiet c.in_err-free_subtree.ensures.cause

pub returns-in_err-free_subtree-clause-blames_none_told : goal.returns-in_err-free_subtree-clause-blames_none_told
returns-in_err-free_subtree-clause-blames_none_told g c =
    handed c.from_residual.result c.in_err-free_subtree.field-0.0
    (CanFree g.F.PageFile.scheme (g.F.PageFile.told c.args.pager.now.file) c.args.pager.now.free c.args.children.now)
    c.from_residual.ensures.1
    (never c.in_err-free_subtree.field-0.0 _ _
    (λ k. next_below g.F.PageFile.scheme (g.F.PageFile.told c.args.pager.now.file)
    (g.F.PageFile.told c.loop-child.pager.file) c.args.pager.now.free c.loop-child.pager.free c.args.children.now
    c.loop-child.child-index c.child-item.result c.args.list.now.items c.loop-child.list.items
    c.loop-child-test.true c.child-item.is c.loop-child.invariant.frees k)
    c.in_err-free_subtree.ensures.blames_none_told)

pub returns-clause-frees : goal.returns-clause-frees
returns-clause-frees g c =
    subst (λ us. FreesSubtrees g.F.PageFile.scheme (g.F.PageFile.told c.args.pager.now.file) c.args.pager.now.free
    (g.F.PageFile.told c.loop-child.pager.file) c.loop-child.pager.free us c.args.list.now.items
    c.loop-child.list.items) (take_all c.loop-child.child-index c.args.children.now c.loop-child-test.false)
    c.loop-child.invariant.frees

pub loop-child-init : goal.loop-child-init
loop-child-init g c = record {
  frees = frees_none g.F.PageFile.scheme (g.F.PageFile.told c.args.pager.now.file) c.args.pager.now.free
      c.args.list.now.items;
  layers = λ all. all;
  once = frees_nothing g.F.PageFile.scheme (g.F.PageFile.told c.args.pager.now.file) c.args.pager.now.free
      (g.F.PageFile.reads c.args.pager.now.file);
  kept = g.met.F.PageFile.kept_self c.args.pager.now.file;
  quiet = refl;
}

pub returns-in_err-free_subtree-clause-reads_at_most : goal.returns-in_err-free_subtree-clause-reads_at_most
returns-in_err-free_subtree-clause-reads_at_most g c =
    frees_part g.F.PageFile.scheme (g.F.PageFile.told c.args.pager.now.file) c.args.pager.now.free
    c.args.children.now (c.loop-child.child-index + 1) (g.F.PageFile.reads c.args.pager.now.file)
    (g.F.PageFile.reads c.free_subtree.new.pager.file)
    (frees_next g.F.PageFile.scheme (g.F.PageFile.told c.args.pager.now.file)
    (g.F.PageFile.told c.loop-child.pager.file) c.args.pager.now.free c.loop-child.pager.free c.args.children.now
    c.loop-child.child-index c.child-item.result c.args.list.now.items c.loop-child.list.items
    (g.F.PageFile.reads c.args.pager.now.file) (g.F.PageFile.reads c.loop-child.pager.file)
    (g.F.PageFile.reads c.free_subtree.new.pager.file) c.loop-child-test.true c.child-item.is
    c.loop-child.invariant.frees c.loop-child.invariant.once c.free_subtree.ensures.reads_at_most)

pub returns-clause-reads_at_most : goal.returns-clause-reads_at_most
returns-clause-reads_at_most g c =
    frees_part g.F.PageFile.scheme (g.F.PageFile.told c.args.pager.now.file) c.args.pager.now.free
    c.args.children.now c.loop-child.child-index (g.F.PageFile.reads c.args.pager.now.file)
    (g.F.PageFile.reads c.loop-child.pager.file) c.loop-child.invariant.once
