use Rattle.std.proofs.Common.{subst}
use Rattle.mr_pack.specs.Twice.{numbers_of}
use Rattle.mr_pack.proofs.Repeats.{tells_of_mixed, Tells}
use Rattle.mr_pack.proofs.twice.least_twice.Goals as goal

pub returns : goal.returns
returns c =
    tells_of_mixed c.repeated.result (numbers_of c.args.records.now) c.in_ok-numbers.numbers.items
    c.in_ok-numbers.ensures.permutation
    (subst (Tells c.repeated.result) c.deref.ensures.value c.repeated.ensures)
