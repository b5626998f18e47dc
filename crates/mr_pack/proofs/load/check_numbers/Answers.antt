use Rattle.std.proofs.Common.{subst}
use Rattle.mr_pack.specs.Twice.{numbers_of}
use Rattle.mr_pack.proofs.Apart.{never_twice, numbers_differ}
use Rattle.mr_pack.proofs.Repeats.{Tells}
use Rattle.mr_pack.proofs.load.check_numbers.Goals as goal

pub returns-in-None-clause-apart : goal.returns-in-None-clause-apart
returns-in-None-clause-apart c =
    numbers_differ c.args.list.now
    (subst (λ r. Tells r (numbers_of c.args.list.now)) c.in-None.is c.in_ok-number.ensures)

pub returns-in-Some-clause-only_memory : goal.returns-in-Some-clause-only_memory
returns-in-Some-clause-only_memory c = λ apart. absurd (never_twice c.in-Some.number c.args.list.now apart
    (subst (λ r. Tells r (numbers_of c.args.list.now)) c.in-Some.is c.in_ok-number.ensures))
