use Rattle.std.proofs.Common.{arith}
use Rattle.std.proofs.lemmas.Int.{ints, clamps}
use Rattle.mr_join.proofs.bounds.Bounds.join.Goals as goal

pub returns-clause-first : goal.returns-clause-first
returns-clause-first c = record {
  due = omega (arith, ints, clamps);
  low = omega (arith, ints, clamps);
  high = omega (arith, ints, clamps);
}

pub returns-clause-second : goal.returns-clause-second
returns-clause-second c = record {
  due = omega (arith, ints, clamps);
  low = omega (arith, ints, clamps);
  high = omega (arith, ints, clamps);
}
