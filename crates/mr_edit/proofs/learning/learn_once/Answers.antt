use Rattle.std.proofs.Common.{true, refl, sym, subst}
use Rattle.mr_edit.specs.Counted.{LearnsOnce}
use Rattle.mr_edit.proofs.ChangeReads.{learns_empty, learns_none, learns_root}
use Rattle.mr_edit.proofs.learning.learn_once.Goals as goal

pub returns-then-learned-clause-reads_at_most : goal.returns-then-learned-clause-reads_at_most
returns-then-learned-clause-reads_at_most g c =
    learns_none g.F.PageFile.scheme (g.F.PageFile.told c.args.pager.now.file) c.args.pager.now.free
    c.args.root.now c.args.learned.now c.args.learned.now (g.F.PageFile.reads c.args.pager.now.file)
    (g.F.PageFile.reads c.args.pager.now.file) refl refl

pub returns-then-not-are_wanted-clause-reads_at_most : goal.returns-then-not-are_wanted-clause-reads_at_most
returns-then-not-are_wanted-clause-reads_at_most g c =
    learns_none g.F.PageFile.scheme (g.F.PageFile.told c.args.pager.now.file) c.args.pager.now.free
    c.args.root.now c.args.learned.now c.args.learned.now (g.F.PageFile.reads c.args.pager.now.file)
    (g.F.PageFile.reads c.args.pager.now.file) refl refl

pub returns-in-None-clause-reads_at_most : goal.returns-in-None-clause-reads_at_most
returns-in-None-clause-reads_at_most g c =
    learns_empty g.F.PageFile.scheme (g.F.PageFile.told c.args.pager.now.file) c.args.pager.now.free
    c.args.root.now c.args.learned.now true (g.F.PageFile.reads c.args.pager.now.file)
    (g.F.PageFile.reads c.args.pager.now.file) c.if-learned.false refl refl

pub returns-in-Some-clause-reads_at_most : goal.returns-in-Some-clause-reads_at_most
returns-in-Some-clause-reads_at_most g c =
    subst (λ o. LearnsOnce g.F.PageFile.scheme (g.F.PageFile.told c.args.pager.now.file) c.args.pager.now.free o
    c.args.learned.now true (g.F.PageFile.reads c.args.pager.now.file) (g.F.PageFile.reads c.learn.new.pager.file))
    (sym c.in-Some.is)
    (learns_root g.F.PageFile.scheme (g.F.PageFile.told c.args.pager.now.file) c.args.pager.now.free
    c.in-Some.child c.args.learned.now true (g.F.PageFile.reads c.args.pager.now.file)
    (g.F.PageFile.reads c.learn.new.pager.file) c.if-learned.false refl c.learn.ensures.reads_at_most)
