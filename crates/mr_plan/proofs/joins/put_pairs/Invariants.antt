use Rattle.std.proofs.Common.{◌≡◌, ◌++◌, take}
use Rattle.mr_plan.specs.Joins.{pair_lines}
use Rattle.mr_plan.proofs.joins.put_pairs.Given as goal

-- the lines so far
abbrev pub invariant-loop-pair : goal.invariant-loop-pair
invariant-loop-pair l = l.out.bytes.items ≡ l.fn.out.bytes.items ++ pair_lines (take l.pair-index l.pairs)
