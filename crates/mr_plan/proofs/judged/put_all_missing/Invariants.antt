use Rattle.std.proofs.Common.{◌≡◌, ◌++◌}
use Rattle.mr_plan.specs.Judged.{missing_lines}
use Rattle.mr_plan.proofs.judged.put_all_missing.Given as goal

-- the lines so far
abbrev pub invariant-loop-i : goal.invariant-loop-i
invariant-loop-i l = l.out.bytes.items ≡ l.fn.out.bytes.items ++ missing_lines l.query l.i
