use Rattle.std.proofs.Common.{◌+◌, take, arith}
use Rattle.mr_batch.specs.private.Presence.{first_hindered, knows, after_all}
use Rattle.mr_batch.proofs.Walking.{loop_step, loop_fault, loop_end, handed_on}
use Rattle.mr_batch.proofs.admission.check_changes.Goals as goal

pub returns-in_err-count : goal.returns-in_err-count
returns-in_err-count c =
    let list = c.args.batch.now.list in
    handed_on c.from_residual.result c.in_err-count.field-0.0
    (first_hindered (knows c.args.dir.now) c.args.count 2 list) c.from_residual.ensures.1
    (loop_fault (knows c.args.dir.now) c.loop-i.count list c.loop-i.i c.change.result.now
    c.is_present-present.result (first_hindered (knows c.args.dir.now) c.args.count 2 list)
    c.in_err-count.field-0.0 (omega arith) c.change.ensures c.is_present-present.ensures c.in_err-count.ensures
    c.loop-i.invariant)

pub loop-i-preserved : goal.loop-i-preserved
loop-i-preserved c =
    let list = c.args.batch.now.list in
    loop_step (knows c.args.dir.now) c.loop-i.count c.in_ok-count.count list c.loop-i.i c.change.result.now
    c.is_present-present.result (first_hindered (knows c.args.dir.now) c.args.count 2 list) (omega arith)
    c.change.ensures c.is_present-present.ensures c.in_ok-count.ensures c.loop-i.invariant

pub returns : goal.returns
returns c =
    let list = c.args.batch.now.list in
    loop_end (after_all (knows c.args.dir.now) (take c.loop-i.i list)) c.loop-i.count (c.loop-i.i + 2) c.loop-i.i list
    (first_hindered (knows c.args.dir.now) c.args.count 2 list) (omega arith) c.loop-i.invariant
