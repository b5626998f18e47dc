use Rattle.std.proofs.Common.{◌≡◌, take}
use Rattle.std.specs.Prelude.{All}
use Rattle.mr_record.specs.Record.{HasLayer}
use Rattle.mr_edit.specs.Counted.{FreesOnce}
use Rattle.mr_edit.specs.private.Removal.{FreesSubtrees}
use Rattle.mr_edit.proofs.freeing.+free_subtree.Given as goal

abbrev pub decreases-free_subtree : goal.decreases-free_subtree
decreases-free_subtree g l = l.child.now.level

-- the first ones are freed
abbrev pub invariant-loop-one : goal.invariant-loop-one
invariant-loop-one g l = record {
  frees : FreesSubtrees g.F.PageFile.scheme (g.F.PageFile.told l.initial.pager.file) l.initial.pager.free
      (g.F.PageFile.told l.pager.file) l.pager.free (take l.one-index l.one-items) l.initial.list.items l.list.items;
  layers : All (HasLayer g.F.PageFile.scheme.version) l.initial.list.items →
      All (HasLayer g.F.PageFile.scheme.version) l.list.items;
  once : FreesOnce g.F.PageFile.scheme (g.F.PageFile.told l.initial.pager.file) l.initial.pager.free
      (take l.one-index l.one-items) (g.F.PageFile.reads l.initial.pager.file) (g.F.PageFile.reads l.pager.file);
  kept : g.F.PageFile.kept l.initial.pager.file l.pager.file;
  quiet : g.F.PageFile.faults l.pager.file ≡ g.F.PageFile.faults l.initial.pager.file;
}
