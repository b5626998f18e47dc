use Rattle.mr_edit.specs.private.Removable.{CanLeave}
use Rattle.mr_edit.proofs.Leaving.{top_inner_short, top_inner_stayed}
use Rattle.mr_edit.proofs.Owners.{leave_both, leave_writes, left_below, only_below}
use Rattle.mr_edit.proofs.Sound.{never, handed}
use Rattle.std.proofs.Common.{refl}
use Rattle.mr_edit.proofs.FreeReads.{beside_none, beside_freed, frees_only}
use Rattle.mr_edit.proofs.removing.leave_top_inner.Goals as goal

pub returns-in_ok-entry-clause-leaves : goal.returns-in_ok-entry-clause-leaves
returns-in_ok-entry-clause-leaves g c =
    top_inner_short g.F.PageFile.scheme (g.F.PageFile.told c.args.pager.now.file)
    (g.F.PageFile.told c.free_page.new.pager.file) (g.F.PageFile.told c.shorten.new.pager.file) c.args.pager.now.free
    c.free_page.new.pager.free c.shorten.new.pager.free
    c.args.page c.args.children.now c.args.aside.items c.index-children-0.result c.in_ok-entry.entry
    c.if-children-eq1.true c.index-children-0.is c.in_ok-free_page.ensures.frees c.in_ok-entry.ensures.shortens

pub returns-in_ok-entry-2-clause-leaves : goal.returns-in_ok-entry-2-clause-leaves
returns-in_ok-entry-2-clause-leaves g c =
    top_inner_stayed g.F.PageFile.scheme (g.F.PageFile.told c.args.pager.now.file)
    (g.F.PageFile.told c.write_inner.new.pager.file) c.args.pager.now.free c.write_inner.new.pager.free
    c.args.page c.args.children.now c.args.aside.items c.in_ok-entry-2.entry c.if-children-eq1.false
    c.in_ok-entry-2.ensures.writes

pub returns-in_err-free_page-clause-blames_none_told : goal.returns-in_err-free_page-clause-blames_none_told
returns-in_err-free_page-clause-blames_none_told g c =
    handed c.from_residual.result c.in_err-free_page.field-0.0
    (CanLeave g.F.PageFile.scheme (g.F.PageFile.told c.args.pager.now.file) c.args.pager.now.free
    c.args.page c.args.children.now) c.from_residual.ensures.1
    (never c.in_err-free_page.field-0.0 _ _
    (λ k. leave_writes g.F.PageFile.scheme (g.F.PageFile.told c.args.pager.now.file) c.args.pager.now.free
    c.args.page c.args.children.now k)
    c.in_err-free_page.ensures.blames_none_told)

pub returns-in_err-entry-clause-blames_none_told : goal.returns-in_err-entry-clause-blames_none_told
returns-in_err-entry-clause-blames_none_told g c =
    handed c.from_residual-in_err-entry.result c.in_err-entry.field-0.0
    (CanLeave g.F.PageFile.scheme (g.F.PageFile.told c.args.pager.now.file) c.args.pager.now.free
    c.args.page c.args.children.now) c.from_residual-in_err-entry.ensures.1
    (never c.in_err-entry.field-0.0 _ _
    (λ k. only_below g.F.PageFile.scheme
    (g.F.PageFile.told c.free_page.new.pager.file) c.free_page.new.pager.free c.args.children.now
    c.index-children-0.result c.if-children-eq1.true c.index-children-0.is
    (left_below g.F.PageFile.scheme (g.F.PageFile.told c.args.pager.now.file)
    (g.F.PageFile.told c.free_page.new.pager.file) c.args.pager.now.free c.free_page.new.pager.free c.args.page
    c.args.children.now c.in_ok-free_page.ensures.frees k))
    c.in_err-entry.ensures.blames_none_told)

pub returns-in_err-entry-2-clause-blames_none_told : goal.returns-in_err-entry-2-clause-blames_none_told
returns-in_err-entry-2-clause-blames_none_told g c =
    handed c.from_residual-in_err-entry-2.result c.in_err-entry-2.field-0.0
    (CanLeave g.F.PageFile.scheme (g.F.PageFile.told c.args.pager.now.file) c.args.pager.now.free
    c.args.page c.args.children.now) c.from_residual-in_err-entry-2.ensures.1
    (never c.in_err-entry-2.field-0.0 _ _
    (λ k. leave_both g.F.PageFile.scheme (g.F.PageFile.told c.args.pager.now.file) c.args.pager.now.free
    c.args.page c.args.children.now k)
    c.in_err-entry-2.ensures.blames_none_told)

pub returns-then-is_empty-clause-reads_at_most : goal.returns-then-is_empty-clause-reads_at_most
returns-then-is_empty-clause-reads_at_most g c =
    beside_none g.F.PageFile.scheme (g.F.PageFile.told c.args.pager.now.file) c.args.pager.now.free c.args.page
    c.args.children.now (g.F.PageFile.reads c.args.pager.now.file) (g.F.PageFile.reads c.args.pager.now.file) refl

pub returns-in_err-free_page-clause-reads_at_most : goal.returns-in_err-free_page-clause-reads_at_most
returns-in_err-free_page-clause-reads_at_most g c =
    beside_none g.F.PageFile.scheme (g.F.PageFile.told c.args.pager.now.file) c.args.pager.now.free c.args.page
    c.args.children.now (g.F.PageFile.reads c.args.pager.now.file) (g.F.PageFile.reads c.free_page.new.pager.file)
    c.free_page.ensures.reads

pub returns-in_err-entry-clause-reads_at_most : goal.returns-in_err-entry-clause-reads_at_most
returns-in_err-entry-clause-reads_at_most g c =
    beside_freed g.F.PageFile.scheme (g.F.PageFile.told c.args.pager.now.file)
    (g.F.PageFile.told c.free_page.new.pager.file) c.args.pager.now.free c.free_page.new.pager.free c.args.page
    c.args.children.now (g.F.PageFile.reads c.args.pager.now.file) (g.F.PageFile.reads c.free_page.new.pager.file)
    (g.F.PageFile.reads c.shorten.new.pager.file) c.in_ok-free_page.ensures.frees c.free_page.ensures.reads
    (frees_only g.F.PageFile.scheme (g.F.PageFile.told c.free_page.new.pager.file) c.free_page.new.pager.free
    c.args.children.now c.index-children-0.result (g.F.PageFile.reads c.free_page.new.pager.file)
    (g.F.PageFile.reads c.shorten.new.pager.file) c.if-children-eq1.true c.index-children-0.is
    c.shorten.ensures.reads_at_most)

pub returns-in_ok-entry-clause-reads_at_most : goal.returns-in_ok-entry-clause-reads_at_most
returns-in_ok-entry-clause-reads_at_most g c =
    beside_freed g.F.PageFile.scheme (g.F.PageFile.told c.args.pager.now.file)
    (g.F.PageFile.told c.free_page.new.pager.file) c.args.pager.now.free c.free_page.new.pager.free c.args.page
    c.args.children.now (g.F.PageFile.reads c.args.pager.now.file) (g.F.PageFile.reads c.free_page.new.pager.file)
    (g.F.PageFile.reads c.shorten.new.pager.file) c.in_ok-free_page.ensures.frees c.free_page.ensures.reads
    (frees_only g.F.PageFile.scheme (g.F.PageFile.told c.free_page.new.pager.file) c.free_page.new.pager.free
    c.args.children.now c.index-children-0.result (g.F.PageFile.reads c.free_page.new.pager.file)
    (g.F.PageFile.reads c.shorten.new.pager.file) c.if-children-eq1.true c.index-children-0.is
    c.shorten.ensures.reads_at_most)

pub returns-in_err-entry-2-clause-reads_at_most : goal.returns-in_err-entry-2-clause-reads_at_most
returns-in_err-entry-2-clause-reads_at_most g c =
    beside_none g.F.PageFile.scheme (g.F.PageFile.told c.args.pager.now.file) c.args.pager.now.free c.args.page
    c.args.children.now (g.F.PageFile.reads c.args.pager.now.file) (g.F.PageFile.reads c.write_inner.new.pager.file)
    c.write_inner.ensures.reads

pub returns-in_ok-entry-2-clause-reads_at_most : goal.returns-in_ok-entry-2-clause-reads_at_most
returns-in_ok-entry-2-clause-reads_at_most g c =
    beside_none g.F.PageFile.scheme (g.F.PageFile.told c.args.pager.now.file) c.args.pager.now.free c.args.page
    c.args.children.now (g.F.PageFile.reads c.args.pager.now.file) (g.F.PageFile.reads c.write_inner.new.pager.file)
    c.write_inner.ensures.reads
