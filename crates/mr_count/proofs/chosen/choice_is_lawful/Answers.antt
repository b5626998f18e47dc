use Rattle.std.proofs.Common.{arith}
use Rattle.mr_count.proofs.HonestChoices.{lawful}
use Rattle.mr_count.proofs.chosen.choice_is_lawful.Goals as goal

pub returns : goal.returns
returns g c =
    lawful c.args._letter (g.C.Choice.ways c.args._choice.now) (omega (arith, c.ranges._letter))
    (g.met.C.Choice.narrow c.args._choice.now)
