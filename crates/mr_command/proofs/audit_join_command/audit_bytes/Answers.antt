use Rattle.std.proofs.Common.{subst}
use Rattle.mr_command.specs.Ending.{IsEndingOrHalt}
use Rattle.mr_plan.specs.Say.{opened_in}
use Rattle.mr_command.proofs.Joined.{says_join_finding}
use Rattle.mr_command.proofs.audit_join_command.audit_bytes.Goals as goal

pub returns : goal.returns
returns g c =
    let one = opened_in c.args.first.now.nodes.items c.args.first.now.top in
    let other = opened_in c.args.second.now.nodes.items c.args.second.now.top in
    subst (λ said. IsEndingOrHalt said c.say_joined.result)
    (says_join_finding g.H.Hashes.of one other c.args.bytes.now c.in_ok-finding.finding c.in_ok-finding.ensures)
    c.say_joined.ensures
