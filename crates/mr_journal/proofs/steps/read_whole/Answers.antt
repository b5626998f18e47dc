use Rattle.mr_journal.proofs.Quiet.{causes_as, causes_then}
use Rattle.mr_journal.proofs.Running.{answered}
use Rattle.mr_journal.proofs.steps.read_whole.Goals as goal

pub returns-clause-causes : goal.returns-clause-causes
returns-clause-causes g c =
    let count = c.in_ok-count.count in
    causes_as _ _ count _
    (causes_then _ _ _ c.in_ok-length.length (answered count) c.in_ok-length.ensures.passes.causes
    c.in_ok-count.ensures.passes.causes)
