use Rattle.mr_journal.proofs.Quiet.{causes_then}
use Rattle.mr_journal.proofs.steps.write_and_sync.Goals as goal

pub returns-clause-causes : goal.returns-clause-causes
returns-clause-causes g c =
    causes_then _ _ _ c.in_ok-write_at.field-0 c.sync.result c.in_ok-write_at.ensures.passes.causes
    c.sync.ensures.passes.causes
