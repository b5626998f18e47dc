use Rattle.std.proofs.lemmas.Result.{on_ok_weaker}
use Rattle.mr_journal.proofs.Gating.{settled_only}
use Rattle.mr_journal.proofs.Quiet.{causes_then}
use Rattle.mr_journal.proofs.steps.sync_both.Goals as goal

pub returns-clause-only : goal.returns-clause-only
returns-clause-only g c =
    on_ok_weaker c.sync-2.result
    (λ second. settled_only _ _ _ _ (g.met.D.Disk.earlier c.sync-2.new.self) c.sync-2.ensures.passes.moves
    c.sync-2.ensures.contents c.in_ok-sync.ensures.durable second)
    c.sync-2.ensures.durable

pub returns-clause-causes : goal.returns-clause-causes
returns-clause-causes g c =
    causes_then _ _ _ c.in_ok-sync.field-0 c.sync-2.result c.in_ok-sync.ensures.passes.causes
    c.sync-2.ensures.passes.causes
