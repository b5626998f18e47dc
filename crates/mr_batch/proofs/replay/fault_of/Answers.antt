use Rattle.std.proofs.Common.{◌∙◌}
use Rattle.mr_tree.specs.Tree.{records}
use Rattle.mr_batch.proofs.Replaying.{none_is_meant, some_is_meant}
use Rattle.mr_batch.proofs.replay.fault_of.Goals as goal

pub returns-in-Ok : goal.returns-in-Ok
returns-in-Ok c =
    none_is_meant c.in_ok-directory.directory c.deref.result.now (records c.args.tree.now) c.args.held
    c.args.batch.now c.requires.distinct (c.deref.ensures.value ∙ c.in_ok-records.ensures) c.in_ok-directory.ensures
    c.in-Ok.ensures.exact

pub returns : goal.returns
returns c =
    some_is_meant c.in_ok-directory.directory c.deref.result.now (records c.args.tree.now) c.args.held
    c.args.batch.now c.in-Err.fault c.requires.distinct (c.deref.ensures.value ∙ c.in_ok-records.ensures)
    c.in_ok-directory.ensures
    c.in-Err.ensures.exact
