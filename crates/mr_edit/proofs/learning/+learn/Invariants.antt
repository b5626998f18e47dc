use Rattle.std.proofs.Common.{◌≡◌}
use Rattle.mr_edit.proofs.Tries.{SeenOnce}
use Rattle.mr_edit.proofs.learning.+learn.Given as goal

abbrev pub decreases-learn : goal.decreases-learn
decreases-learn g l = l.child.now.level

-- nothing was changed
abbrev pub invariant-loop-one : goal.invariant-loop-one
invariant-loop-one g l = record {
  same : g.F.PageFile.told l.pager.file ≡ g.F.PageFile.told l.initial.pager.file;
  free : l.pager.free ≡ l.initial.pager.free;
  kept : g.F.PageFile.kept l.initial.pager.file l.pager.file;
  quiet : g.F.PageFile.faults l.pager.file ≡ g.F.PageFile.faults l.initial.pager.file;
  seen : SeenOnce g.F.PageFile.scheme (g.F.PageFile.told l.initial.pager.file) l.one-items l.one-index
      (g.F.PageFile.reads l.initial.pager.file) (g.F.PageFile.reads l.pager.file);
}
