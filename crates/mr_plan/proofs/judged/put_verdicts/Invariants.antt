use Rattle.std.proofs.Common.{◌≡◌, ◌++◌, take}
use Rattle.mr_plan.specs.Judged.{verdict_lines}
use Rattle.mr_plan.proofs.judged.put_verdicts.Given as goal

-- the verdicts so far
abbrev pub invariant-loop-i : goal.invariant-loop-i
invariant-loop-i l = l.out.bytes.items ≡ l.fn.out.bytes.items ++ verdict_lines 1 (take l.i l.list)
