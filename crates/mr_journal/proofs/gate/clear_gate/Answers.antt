use Rattle.std.proofs.Common.{[], ◌∷◌}
use Rattle.mr_journal.specs.States.{IsShutAt}
use Rattle.mr_journal.specs.private.Progress.{IsInvalidAt, IsClearedAt}
use Rattle.mr_journal.proofs.Gating.{leads_put, cleared_torn, cleared_left}
use Rattle.mr_journal.proofs.gate.clear_gate.Goals as goal

pub returns-clause-shut : goal.returns-clause-shut
returns-clause-shut g c map =
    leads_put _ _ _ _ 0 1 (0 ∷ []) c.write_and_sync.result (IsInvalidAt map) (IsShutAt map) (IsClearedAt map)
    (g.met.D.Disk.earlier c.write_and_sync.new.disk) (g.met.D.Disk.counts c.args.disk.now)
    c.write_and_sync.ensures.moves c.write_and_sync.ensures.written c.write_and_sync.ensures.durable
    (cleared_torn map) (cleared_left _ _ _ map)
