use Rattle.std.proofs.Common.{◌≡◌}
use Rattle.std.specs.Prelude.{IfSome}
use Rattle.mr_edit.specs.Held.{IsTold}
use Rattle.mr_edit.specs.Outcome.{IsLow}
use Rattle.mr_edit.proofs.ChangeReads.{ReplaysPart}
use Rattle.mr_edit.proofs.Turns.{ReplaysFirst, ReplaysFronts}
use Rattle.mr_edit.proofs.replaying.replay.Given as goal

-- the first ones were made
abbrev pub invariant-loop-i : goal.invariant-loop-i
invariant-loop-i g l = record {
  replays : ReplaysFirst g.F.PageFile.scheme (g.F.PageFile.told l.initial.pager.file) l.initial.pager.free
      l.initial.root l.initial.dir (g.F.PageFile.told l.pager.file) l.pager.free l.root l.dir l.batch l.i;
  fronts : ReplaysFronts g.F.PageFile.scheme (g.F.PageFile.told l.initial.pager.file) l.initial.pager.free
      l.initial.root l.initial.dir (g.F.PageFile.told l.pager.file) l.pager.free l.root l.dir l.batch l.i;
  unmoved : l.i ≡ 0 → (l.root ≡ l.initial.root) × (l.dir ≡ l.initial.dir);
  part : ReplaysPart g.F.PageFile.scheme (g.F.PageFile.told l.initial.pager.file) l.initial.pager.free
      l.initial.root l.initial.dir (g.F.PageFile.told l.pager.file) l.pager.free l.root l.dir l.batch l.i l.learned
      (g.F.PageFile.reads l.initial.pager.file) (g.F.PageFile.reads l.pager.file);
  low : IsLow l.initial.root → IsLow l.root;
  told : IfSome l.initial.root (IsTold g.F.PageFile.scheme.version) →
      IfSome l.root (IsTold g.F.PageFile.scheme.version);
  kept : g.F.PageFile.kept l.initial.pager.file l.pager.file;
  quiet : g.F.PageFile.faults l.pager.file ≡ g.F.PageFile.faults l.initial.pager.file;
}
