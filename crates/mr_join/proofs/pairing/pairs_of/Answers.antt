use Rattle.std.proofs.Common.{◌∙◌}
use Rattle.mr_join.proofs.Pairs.{all_found}
use Rattle.mr_join.proofs.pairing.pairs_of.Goals as goal

pub returns : goal.returns
returns c =
    c.in_ok-sort.ensures
    ∙ all_found c.args.first.now c.args.second.now c.deref.result.now c.deref-2.result.now c.in_ok-found.found.items
    (c.deref.ensures.value ∙ c.in_ok-first.ensures) (c.deref-2.ensures.value ∙ c.in_ok-second.ensures)
    c.in_ok-found.ensures
