use Rattle.mr_journal.proofs.Quiet.{causes_as, causes_then}
use Rattle.mr_journal.proofs.Running.{answered}
use Rattle.mr_journal.proofs.steps.read_journal.Goals as goal

pub returns-clause-causes : goal.returns-clause-causes
returns-clause-causes g c =
    let journal = c.in_ok-journal.journal in
    causes_as _ _ journal _
    (causes_then _ _ _ c.in_ok-map_length.map_length (answered journal) c.in_ok-map_length.ensures.passes.causes
    c.in_ok-journal.ensures.causes)
