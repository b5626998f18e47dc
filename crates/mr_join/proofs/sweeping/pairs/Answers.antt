use Rattle.mr_join.proofs.Halves.{both_halves}
use Rattle.mr_join.proofs.sweeping.pairs.Goals as goal

pub returns : goal.returns
returns c =
    both_halves c.args.first.now c.args.second.now c.new-pairs.result.items c.sweep.new.pairs.items
    c.sweep-2.new.pairs.items c.new-pairs.ensures.items c.in_ok-sweep.ensures c.in_ok-sweep-2.ensures
