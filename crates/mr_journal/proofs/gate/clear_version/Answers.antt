use Rattle.std.proofs.Common.{[], ◌∷◌}
use Rattle.mr_journal.specs.States.{IsShutAt}
use Rattle.mr_journal.specs.private.Progress.{IsInvalidAt}
use Rattle.mr_journal.proofs.Gating.{leads_put, invalid_torn, invalid_left, HasShutGate}
use Rattle.mr_journal.proofs.gate.clear_version.Goals as goal

pub returns-clause-shut : goal.returns-clause-shut
returns-clause-shut g c map gate ne =
    leads_put _ _ _ _ 1 1 (0 ∷ []) c.write_and_sync.result (HasShutGate map gate) (IsShutAt map) (IsInvalidAt map)
    (g.met.D.Disk.earlier c.write_and_sync.new.disk) (g.met.D.Disk.counts c.args.disk.now)
    c.write_and_sync.ensures.moves c.write_and_sync.ensures.written c.write_and_sync.ensures.durable
    (invalid_torn map gate 1 ne) (invalid_left _ _ _ map gate)
