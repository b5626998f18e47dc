use Rattle.mr_pack.proofs.Repeats.{tells_of_rising}
use Rattle.mr_pack.proofs.twice.repeated.Goals as goal

pub returns : goal.returns
returns c =
    tells_of_rising c.in_ok-first.first.now c.in_ok-first.others.now c.args.numbers.now c.first_repeat.result
    c.requires c.in_ok-first.ensures.cases.0 c.first_repeat.ensures
