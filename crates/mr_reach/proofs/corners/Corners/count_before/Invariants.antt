use Rattle.std.proofs.Common.{◌≤◌, ◌^◌, length}
use Rattle.mr_reach.proofs.Walking.{Walks}
use Rattle.mr_reach.proofs.corners.Corners.count_before.Given as goal

abbrev pub invariant-loop-left : goal.invariant-loop-left
invariant-loop-left l = record {
  within : l.left ≤ length l.self-inside.levels.items;
  walks : Walks l.self-inside.ys.items l.fn.y l.at (2 ^ l.left) l.start l.sum l.low;
}

abbrev pub decreases-loop-left : goal.decreases-loop-left
decreases-loop-left l = l.left
