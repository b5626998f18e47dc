use Rattle.std.proofs.Common.{arith}
use Rattle.std.proofs.lemmas.Int.{ints, to_z-of_z}
use Rattle.mr_join.proofs.query.Query.reaches.Goals as goal

pub returns-then-bounds-from : goal.returns-then-bounds-from
returns-then-bounds-from c = grind (arith, ints, to_z-of_z)
