use Rattle.std.proofs.Common.{[], ◌∷◌}
use Rattle.mr_journal.specs.States.{IsShutAt, IsArmedFor, IsSettledAt, EitherOf}
use Rattle.mr_journal.specs.private.Progress.{IsCarriedBy}
use Rattle.mr_journal.proofs.Gating.{leads_put, closed_torn, closed_left}
use Rattle.mr_journal.proofs.gate.close_gate.Goals as goal

pub returns-clause-shut : goal.returns-clause-shut
returns-clause-shut g c body map =
    leads_put _ _ _ _ 0 1 (0 ∷ []) c.write_and_sync.result (IsCarriedBy body map)
    (EitherOf (IsShutAt map) (IsArmedFor map)) (IsSettledAt map (g.D.Disk.state c.write_and_sync.new.disk).contents)
    (g.met.D.Disk.earlier c.write_and_sync.new.disk) (g.met.D.Disk.counts c.args.disk.now)
    c.write_and_sync.ensures.moves c.write_and_sync.ensures.written c.write_and_sync.ensures.durable
    (closed_torn body map) (closed_left _ _ _ body map)
