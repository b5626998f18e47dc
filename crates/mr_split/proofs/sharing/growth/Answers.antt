use Rattle.mr_split.proofs.Steps.{growth_of_none, growth_of_some}
use Rattle.mr_split.proofs.sharing.growth.Goals as goal

pub returns-in-None-clause-value : goal.returns-in-None-clause-value
returns-in-None-clause-value c = growth_of_none c.args.group.now c.args.rect.now c.area.result c.in-None.is
    c.area.ensures.value

pub returns-in-Some-clause-value : goal.returns-in-Some-clause-value
returns-in-Some-clause-value c =
    growth_of_some c.args.group.now c.in-Some.all c.args.rect.now c.growth.result c.in-Some.is c.growth.ensures.value
