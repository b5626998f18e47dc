use Rattle.std.proofs.Common.{◌<◌, ◌≤◌, List, length, subst, arith}
use Rattle.mr_record.specs.declared.record.Record.{Record}
use Rattle.mr_edit.specs.private.Removal.{FreesSubtrees}
use Rattle.mr_edit.specs.private.Removable.{CanLeave}
use Rattle.mr_edit.proofs.Leaving.{inner_gone, inner_stayed}
use Rattle.mr_edit.proofs.Owners.{leave_both, leave_writes, left_below}
use Rattle.mr_edit.proofs.Sound.{never, handed}
use Rattle.mr_edit.proofs.FreeReads.{beside_none, beside_freed}
use Rattle.mr_edit.proofs.removing.leave_inner.Goals as goal

pub returns-in_ok-append-clause-leaves : goal.returns-in_ok-append-clause-leaves
returns-in_ok-append-clause-leaves g c =
    let few : length c.args.children.now < 24 = omega arith in
    inner_gone g.F.PageFile.scheme (g.F.PageFile.told c.args.pager.now.file)
    (g.F.PageFile.told c.free_page.new.pager.file) (g.F.PageFile.told c.free_subtrees.new.pager.file)
    c.args.pager.now.free c.free_page.new.pager.free c.free_subtrees.new.pager.free
    c.args.page c.args.children.now c.args.aside.items c.free_subtrees.new.list.items c.append.new.self.items few
    c.in_ok-append.ensures.items c.in_ok-free_page.ensures.frees
    (subst (λ (us : List Record). FreesSubtrees g.F.PageFile.scheme (g.F.PageFile.told c.free_page.new.pager.file)
    c.free_page.new.pager.free (g.F.PageFile.told c.free_subtrees.new.pager.file) c.free_subtrees.new.pager.free
    c.args.children.now us c.free_subtrees.new.list.items)
    c.new-records.ensures.items c.in_ok-free_subtrees.ensures.frees)

pub returns-in_ok-entry-clause-leaves : goal.returns-in_ok-entry-clause-leaves
returns-in_ok-entry-clause-leaves g c =
    let many : 24 ≤ length c.args.children.now = omega arith in
    inner_stayed g.F.PageFile.scheme (g.F.PageFile.told c.args.pager.now.file)
    (g.F.PageFile.told c.write_inner.new.pager.file) c.args.pager.now.free c.write_inner.new.pager.free c.args.page
    c.args.children.now c.args.aside.items c.in_ok-entry.entry
    many c.in_ok-entry.ensures.writes

pub returns-in_err-free_page-clause-blames_none_told : goal.returns-in_err-free_page-clause-blames_none_told
returns-in_err-free_page-clause-blames_none_told g c =
    handed c.from_residual.result c.in_err-free_page.field-0.0
    (CanLeave g.F.PageFile.scheme (g.F.PageFile.told c.args.pager.now.file) c.args.pager.now.free
    c.args.page c.args.children.now) c.from_residual.ensures.1
    (never c.in_err-free_page.field-0.0 _ _
    (λ k. leave_writes g.F.PageFile.scheme (g.F.PageFile.told c.args.pager.now.file) c.args.pager.now.free
    c.args.page c.args.children.now k)
    c.in_err-free_page.ensures.blames_none_told)

pub returns-in_err-free_subtrees-clause-blames_none_told : goal.returns-in_err-free_subtrees-clause-blames_none_told
returns-in_err-free_subtrees-clause-blames_none_told g c =
    handed c.from_residual-in_err-free_subtrees.result c.in_err-free_subtrees.field-0.0
    (CanLeave g.F.PageFile.scheme (g.F.PageFile.told c.args.pager.now.file) c.args.pager.now.free
    c.args.page c.args.children.now) c.from_residual-in_err-free_subtrees.ensures.1
    (never c.in_err-free_subtrees.field-0.0 _ _
    (λ k. left_below g.F.PageFile.scheme (g.F.PageFile.told c.args.pager.now.file)
    (g.F.PageFile.told c.free_page.new.pager.file) c.args.pager.now.free c.free_page.new.pager.free c.args.page
    c.args.children.now c.in_ok-free_page.ensures.frees k)
    c.in_err-free_subtrees.ensures.blames_none_told)

pub returns-in_err-entry-clause-blames_none_told : goal.returns-in_err-entry-clause-blames_none_told
returns-in_err-entry-clause-blames_none_told g c =
    handed c.from_residual-in_err-entry.result c.in_err-entry.field-0.0
    (CanLeave g.F.PageFile.scheme (g.F.PageFile.told c.args.pager.now.file) c.args.pager.now.free
    c.args.page c.args.children.now) c.from_residual-in_err-entry.ensures.1
    (never c.in_err-entry.field-0.0 _ _
    (λ k. leave_both g.F.PageFile.scheme (g.F.PageFile.told c.args.pager.now.file) c.args.pager.now.free
    c.args.page c.args.children.now k)
    c.in_err-entry.ensures.blames_none_told)

pub returns-in_err-free_page-clause-reads_at_most : goal.returns-in_err-free_page-clause-reads_at_most
returns-in_err-free_page-clause-reads_at_most g c =
    beside_none g.F.PageFile.scheme (g.F.PageFile.told c.args.pager.now.file) c.args.pager.now.free c.args.page
    c.args.children.now (g.F.PageFile.reads c.args.pager.now.file) (g.F.PageFile.reads c.free_page.new.pager.file)
    c.free_page.ensures.reads

pub returns-in_err-free_subtrees-clause-reads_at_most : goal.returns-in_err-free_subtrees-clause-reads_at_most
returns-in_err-free_subtrees-clause-reads_at_most g c =
    beside_freed g.F.PageFile.scheme (g.F.PageFile.told c.args.pager.now.file)
    (g.F.PageFile.told c.free_page.new.pager.file) c.args.pager.now.free c.free_page.new.pager.free c.args.page
    c.args.children.now (g.F.PageFile.reads c.args.pager.now.file) (g.F.PageFile.reads c.free_page.new.pager.file)
    (g.F.PageFile.reads c.free_subtrees.new.pager.file) c.in_ok-free_page.ensures.frees c.free_page.ensures.reads
    c.free_subtrees.ensures.reads_at_most

pub returns-in_err-append-clause-reads_at_most : goal.returns-in_err-append-clause-reads_at_most
returns-in_err-append-clause-reads_at_most g c =
    beside_freed g.F.PageFile.scheme (g.F.PageFile.told c.args.pager.now.file)
    (g.F.PageFile.told c.free_page.new.pager.file) c.args.pager.now.free c.free_page.new.pager.free c.args.page
    c.args.children.now (g.F.PageFile.reads c.args.pager.now.file) (g.F.PageFile.reads c.free_page.new.pager.file)
    (g.F.PageFile.reads c.free_subtrees.new.pager.file) c.in_ok-free_page.ensures.frees c.free_page.ensures.reads
    c.free_subtrees.ensures.reads_at_most

pub returns-in_ok-append-clause-reads_at_most : goal.returns-in_ok-append-clause-reads_at_most
returns-in_ok-append-clause-reads_at_most g c =
    beside_freed g.F.PageFile.scheme (g.F.PageFile.told c.args.pager.now.file)
    (g.F.PageFile.told c.free_page.new.pager.file) c.args.pager.now.free c.free_page.new.pager.free c.args.page
    c.args.children.now (g.F.PageFile.reads c.args.pager.now.file) (g.F.PageFile.reads c.free_page.new.pager.file)
    (g.F.PageFile.reads c.free_subtrees.new.pager.file) c.in_ok-free_page.ensures.frees c.free_page.ensures.reads
    c.free_subtrees.ensures.reads_at_most

pub returns-in_err-entry-clause-reads_at_most : goal.returns-in_err-entry-clause-reads_at_most
returns-in_err-entry-clause-reads_at_most g c =
    beside_none g.F.PageFile.scheme (g.F.PageFile.told c.args.pager.now.file) c.args.pager.now.free c.args.page
    c.args.children.now (g.F.PageFile.reads c.args.pager.now.file) (g.F.PageFile.reads c.write_inner.new.pager.file)
    c.write_inner.ensures.reads

pub returns-in_ok-entry-clause-reads_at_most : goal.returns-in_ok-entry-clause-reads_at_most
returns-in_ok-entry-clause-reads_at_most g c =
    beside_none g.F.PageFile.scheme (g.F.PageFile.told c.args.pager.now.file) c.args.pager.now.free c.args.page
    c.args.children.now (g.F.PageFile.reads c.args.pager.now.file) (g.F.PageFile.reads c.write_inner.new.pager.file)
    c.write_inner.ensures.reads
