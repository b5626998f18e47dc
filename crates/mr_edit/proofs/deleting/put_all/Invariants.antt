use Rattle.std.proofs.Common.{◌≡◌, ◌+◌, ◌*◌, ◌≤◌, length, take}
use Rattle.std.specs.Prelude.{IfSome}
use Rattle.mr_edit.specs.Deleted.{InsertsAll}
use Rattle.mr_edit.specs.Held.{IsTold}
use Rattle.mr_edit.specs.Outcome.{IsLow}
use Rattle.mr_edit.specs.Reads.{insertion_reads}
use Rattle.mr_edit.proofs.deleting.put_all.Given as goal

-- the first ones went in
abbrev pub invariant-loop-one : goal.invariant-loop-one
invariant-loop-one g l = record {
  inserts : InsertsAll g.F.PageFile.scheme (g.F.PageFile.told l.initial.pager.file) l.initial.pager.free
      l.initial.root (g.F.PageFile.told l.pager.file) l.pager.free l.root (take l.one-index l.records);
  reads : g.F.PageFile.reads l.pager.file
      ≤ g.F.PageFile.reads l.initial.pager.file + length (take l.one-index l.records) * insertion_reads;
  low : IsLow l.initial.root → IsLow l.root;
  told : IfSome l.initial.root (IsTold g.F.PageFile.scheme.version) →
      IfSome l.root (IsTold g.F.PageFile.scheme.version);
  kept : g.F.PageFile.kept l.initial.pager.file l.pager.file;
  quiet : g.F.PageFile.faults l.pager.file ≡ g.F.PageFile.faults l.initial.pager.file;
}
