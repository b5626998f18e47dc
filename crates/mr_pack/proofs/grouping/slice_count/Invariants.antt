use Rattle.std.proofs.Common.{ℕ, ◌*◌, ◌-◌, ◌<◌, ◌≤◌}
use Rattle.mr_pack.proofs.grouping.slice_count.Given as goal

-- the squares of all smaller numbers of slices have too few places
abbrev pub invariant-loop-slices : goal.invariant-loop-slices
invariant-loop-slices l = record { within : l.slices ≤ l.groups; below : (k : ℕ) → k < l.slices → k * k < l.groups }

abbrev pub decreases-loop-slices : goal.decreases-loop-slices
decreases-loop-slices l = l.groups - l.slices
