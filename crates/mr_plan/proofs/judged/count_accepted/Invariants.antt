use Rattle.std.proofs.Common.{◌≡◌, ◌≤◌, take}
use Rattle.mr_plan.specs.Judged.{accepted_count}
use Rattle.mr_plan.proofs.judged.count_accepted.Given as goal

-- so many of the verdicts so far
abbrev pub invariant-loop-verdict : goal.invariant-loop-verdict
invariant-loop-verdict l =
    (l.count ≡ accepted_count (take l.verdict-index l.list)) × (l.count ≤ l.verdict-index)
