use Rattle.std.proofs.Common.{◌∙◌, rules}
use Rattle.mr_journal.proofs.Paging.{placed_next}
use Rattle.mr_journal.proofs.body.are_placed.Goals as goal

pub loop-left-preserved : goal.loop-left-preserved
loop-left-preserved c =
    placed_next c.args.size c.loop-left.low c.loop-left.reach c.loop-left.left c.number_at-number.result
    c.max-reach.result c.loop-left.rest.now c.split_at.result.1.now
    c.loop-left-test.true c.number_at-number.ensures c.split_at.ensures.back (search rules)
    (search rules)
    ∙ c.loop-left.invariant
