use Rattle.std.proofs.Common.{[], ◌∷◌}
use Rattle.mr_journal.specs.Format.{carried}
use Rattle.mr_journal.specs.States.{IsShutAt, IsArmedFor, EitherOf}
use Rattle.mr_journal.specs.private.Progress.{IsFilledBy, IsArmedBy}
use Rattle.mr_journal.proofs.Gating.{leads_put, opened_torn, opened_left}
use Rattle.mr_journal.proofs.gate.open_gate.Goals as goal

pub returns-clause-armed : goal.returns-clause-armed
returns-clause-armed g c body map fit =
    leads_put _ _ _ _ 0 1 (79 ∷ []) c.write_and_sync.result (IsFilledBy body map)
    (EitherOf (IsShutAt map) (IsArmedFor (carried body map))) (IsArmedBy body (carried body map))
    (g.met.D.Disk.earlier c.write_and_sync.new.disk) (g.met.D.Disk.counts c.args.disk.now)
    c.write_and_sync.ensures.moves c.write_and_sync.ensures.written c.write_and_sync.ensures.durable
    (opened_torn body map fit) (opened_left _ _ _ body map fit)
