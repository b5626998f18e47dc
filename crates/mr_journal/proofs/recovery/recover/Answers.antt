use Rattle.mr_journal.proofs.Quiet.{causes_then}
use Rattle.mr_journal.proofs.recovery.recover.Goals as goal

pub returns-clause-causes : goal.returns-clause-causes
returns-clause-causes g c =
    causes_then _ _ _ c.in_ok-sync_both.field-0 c.redo.result c.in_ok-sync_both.ensures.causes
    c.redo.ensures.causes
