use Rattle.std.proofs.Common.{is_some, ap}
use Rattle.mr_journal.proofs.Quiet.{quiet_then}
use Rattle.mr_journal.proofs.shelf_disk.read_or_empty.Goals as goal

pub returns-clause-quiet : goal.returns-clause-quiet
returns-clause-quiet g c =
    quiet_then _ _ _ _ _ c.read_existing.result (ap is_some c.length_of.ensures.files)
    c.in_ok-length_of.ensures.quiet c.read_existing.ensures.quiet
