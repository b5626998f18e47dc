use Rattle.std.proofs.Common.{arith, sym}
use Rattle.mr_record.proofs.Known.{none_above}
use Rattle.mr_record.proofs.numbers.Numbers.contains.Goals as goal

pub returns-then-from-self : goal.returns-then-from-self
returns-then-from-self c =
    sym (none_above c.args.self.now.end c.args.number c.args.earlier.now c.requires.low
    (omega (arith, c.if-from-self.true, c.from.ensures)))
