use Rattle.std.proofs.Common.{◌∙◌}
use Rattle.mr_plan.specs.Joins.{joined_found}
use Rattle.mr_plan.specs.Say.{opened_in}
use Rattle.mr_command.proofs.audit_join_command.join_finding.Goals as goal

-- each reader reads its snapshot
pub returns-in-Ok : goal.returns-in-Ok
returns-in-Ok g c =
    let one = c.reader.ensures.snapshot in
    let other = c.reader-2.ensures.snapshot in
    c.in-Ok.ensures.told
    ∙ (λ i. joined_found g.H.Hashes.of (opened_in (one i).nodes.items (one i).top)
    (opened_in (other i).nodes.items (other i).top) c.args.bytes.now)
