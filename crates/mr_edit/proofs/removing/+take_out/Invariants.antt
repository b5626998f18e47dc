use Rattle.std.proofs.Common.{◌≡◌, ◌≢◌, ◌-◌}
use Rattle.mr_edit.proofs.Searching.{NoneYet}
use Rattle.mr_edit.proofs.Tries.{Turned, TriedOnce}
use Rattle.mr_edit.proofs.removing.+take_out.Given as goal

abbrev pub decreases-take_out : goal.decreases-take_out
decreases-take_out g l = l.child.now.level

-- the first ones do not have it, and nothing was done
abbrev pub invariant-loop-n : goal.invariant-loop-n
invariant-loop-n g l = record {
  same : g.F.PageFile.told l.pager.file ≡ g.F.PageFile.told l.initial.pager.file;
  free : l.pager.free ≡ l.initial.pager.free;
  kept : g.F.PageFile.kept l.initial.pager.file l.pager.file;
  quiet : g.F.PageFile.faults l.pager.file ≡ g.F.PageFile.faults l.initial.pager.file;
  none : NoneYet g.F.PageFile.scheme (g.F.PageFile.told l.initial.pager.file) l.children l.number l.rect
      (l.n - 1);
  turned : l.n ≢ 0 → Turned g.F.PageFile.scheme (g.F.PageFile.told l.initial.pager.file) l.children l.number
      l.rect
      l.turn;
  tried : TriedOnce g.F.PageFile.scheme (g.F.PageFile.told l.initial.pager.file) l.children l.turn l.n
      (g.F.PageFile.reads l.initial.pager.file) (g.F.PageFile.reads l.pager.file);
}
