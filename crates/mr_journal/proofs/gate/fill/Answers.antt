use Rattle.std.proofs.Common.{length}
use Rattle.mr_journal.specs.States.{IsShutAt}
use Rattle.mr_journal.specs.private.Progress.{IsClearedAt, IsFilledBy}
use Rattle.mr_journal.proofs.Gating.{leads_put, filled_torn, filled_left}
use Rattle.mr_journal.proofs.gate.fill.Goals as goal

pub returns-clause-filled : goal.returns-clause-filled
returns-clause-filled g c map =
    leads_put _ _ _ _ 1 (length c.args.body.now) c.args.body.now c.write_and_sync.result (IsClearedAt map)
    (IsShutAt map) (IsFilledBy c.args.body.now map)
    (g.met.D.Disk.earlier c.write_and_sync.new.disk) (g.met.D.Disk.counts c.args.disk.now)
    c.write_and_sync.ensures.moves c.write_and_sync.ensures.written c.write_and_sync.ensures.durable
    (filled_torn map (length c.args.body.now)) (filled_left _ _ _ map c.args.body.now)
