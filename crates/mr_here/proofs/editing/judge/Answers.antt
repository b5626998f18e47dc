use Rattle.mr_store.specs.Paged.{stands_for}
use Rattle.mr_here.proofs.Layered.{of_tested}
use Rattle.mr_here.proofs.editing.judge.Goals as goal

pub apply-requires-clause-layers : goal.apply-requires-clause-layers
apply-requires-clause-layers g c κs within =
    of_tested (stands_for c.args.paged).version c.version.result c.args.batch.now.list c.lacks.result
    c.requires.layered c.version.ensures c.lacks.ensures c.if-lacks.false
