use Rattle.std.proofs.Common.{◌≡◌, ◌-◌, length}
use Rattle.mr_split.specs.Split.{shared}
use Rattle.mr_split.proofs.sharing.share.Given as goal

abbrev pub invariant-loop-placed : goal.invariant-loop-placed
invariant-loop-placed l = record {
  same : length l.marks ≡ length l.list;
  rest : shared (l.left - l._placed) l.least l.list l.marks ≡ shared l.left l.least l.list l.initial.marks;
}
