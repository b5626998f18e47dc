use Rattle.mr_journal.proofs.Picking.{touched_read, untouched_read}
use Rattle.mr_journal.proofs.crash.touches.Goals as goal

pub returns-then-lies_in-clause-touched : goal.returns-then-lies_in-clause-touched
returns-then-lies_in-clause-touched c _ =
    touched_read c.args.ranges.now c.loop-at.at c.args.place (0, 0) c.loop-at-test.true
    (c.lies_in.ensures.inside c.if-lies_in.true)

pub loop-at-preserved : goal.loop-at-preserved
loop-at-preserved c =
    untouched_read c.args.ranges.now c.loop-at.at c.args.place (0, 0) c.loop-at-test.true c.loop-at.invariant
    (c.lies_in.ensures.outside c.if-lies_in.false)
