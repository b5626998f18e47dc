use Rattle.std.proofs.Common.{◌<◌, length, sym, subst, arith}
use Rattle.mr_batch.specs.Changes.{IsLayered}
use Rattle.mr_batch.proofs.Replaying.{at_start, next_may, after_next, tree_at_end, records_at_end}
use Rattle.mr_batch.proofs.replay.replayed.Goals as goal

pub loop-i-init : goal.loop-i-init
loop-i-init c = at_start c.args.tree c.args.held c.args.batch.now c.requires.well_formed c.requires.admissible

pub changed-requires-clause-may : goal.changed-requires-clause-may
changed-requires-clause-may c =
    next_may c.args.tree c.loop-i.tree c.args.batch.now.list c.loop-i.i c.change.result.now (omega arith)
    c.change.ensures c.loop-i.invariant

pub changed-requires-clause-layer : goal.changed-requires-clause-layer
changed-requires-clause-layer c =
    subst IsLayered (sym c.change.ensures)
    (c.requires.layers c.loop-i.i c.change.result.now
    (let within : c.loop-i.i < length c.args.batch.now.list = omega arith in
    within))

pub loop-i-preserved : goal.loop-i-preserved
loop-i-preserved c =
    after_next c.args.tree c.loop-i.tree c.in_ok-tree.tree c.args.batch.now.list c.loop-i.i c.change.result.now
    (omega arith) c.change.ensures c.in_ok-tree.ensures.exact c.in_ok-tree.ensures.well_formed
    c.in_ok-tree.ensures.records c.loop-i.invariant

pub returns-clause-exact : goal.returns-clause-exact
returns-clause-exact c =
    tree_at_end c.args.tree c.loop-i.tree c.args.batch.now.list c.loop-i.i (omega arith) c.loop-i.invariant

pub returns-clause-records : goal.returns-clause-records
returns-clause-records c =
    records_at_end c.args.tree c.loop-i.tree c.args.batch.now.list c.loop-i.i (omega arith) c.loop-i.invariant
