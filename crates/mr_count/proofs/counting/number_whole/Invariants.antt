use Rattle.std.proofs.Common.{◌≡◌, ◌≤◌, take}
use Rattle.mr_count.specs.Chosen.{number_whole}
use Rattle.mr_count.proofs.counting.number_whole.Given as goal

-- of the first ones
abbrev pub invariant-loop-one : goal.invariant-loop-one
invariant-loop-one g l = record {
  value : l.number ≡ number_whole (g.C.Choice.ways l.choice) (take l.one-index l.records);
  few : l.number ≤ l.one-index;
}
