use Rattle.std.proofs.Common.{◌≡◌, take}
use Rattle.std.specs.Prelude.{All}
use Rattle.mr_record.specs.Record.{HasLayer}
use Rattle.mr_edit.specs.Counted.{FreesOnce}
use Rattle.mr_edit.specs.private.Removal.{FreesSubtrees}
use Rattle.mr_edit.proofs.freeing.free_subtrees.Given as goal

-- the first ones are freed
abbrev pub invariant-loop-child : goal.invariant-loop-child
invariant-loop-child g l = record {
  frees : FreesSubtrees g.F.PageFile.scheme (g.F.PageFile.told l.initial.pager.file) l.initial.pager.free
      (g.F.PageFile.told l.pager.file) l.pager.free (take l.child-index l.children) l.initial.list.items l.list.items;
  layers : All (HasLayer g.F.PageFile.scheme.version) l.initial.list.items →
      All (HasLayer g.F.PageFile.scheme.version) l.list.items;
  once : FreesOnce g.F.PageFile.scheme (g.F.PageFile.told l.initial.pager.file) l.initial.pager.free
      (take l.child-index l.children) (g.F.PageFile.reads l.initial.pager.file) (g.F.PageFile.reads l.pager.file);
  kept : g.F.PageFile.kept l.initial.pager.file l.pager.file;
  quiet : g.F.PageFile.faults l.pager.file ≡ g.F.PageFile.faults l.initial.pager.file;
}
