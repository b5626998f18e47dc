use Rattle.std.proofs.Common.{sym, ap, subst, ◌∙◌}
use Rattle.std.specs.Prelude.{Ok, Err}
use Rattle.mr_command.specs.Ending.{IsEndingOf, IsEndingOrHalt}
use Rattle.mr_plan.specs.Joins.{pair_lines}
use Rattle.mr_plan.specs.Say.{prints}
use Rattle.mr_command.proofs.Joined.{says_join_verdict}
use Rattle.mr_command.proofs.Verdicts.{gives}
use Rattle.mr_command.proofs.check_join_command.check_bytes.Goals as goal

pub returns-in_ok-text-in-Ok : goal.returns-in_ok-text-in-Ok
returns-in_ok-text-in-Ok g c =
    subst (λ said. IsEndingOf said c.text.result)
    (sym (says_join_verdict g.H.Hashes.of c.args.first.now c.args.second.now c.args.bytes.now (Ok c.in-Ok.pairs)
    c.in-Ok.ensures.exact))
    (gives (prints (pair_lines c.in-Ok.pairs)) c.text.result ((λ e. cc), (λ e. cc)) c.text.ensures.status
    (c.text.ensures.printed ∙ ap (λ v. v.items) c.into_bytes.ensures ∙ c.in_ok-text-in-Ok.ensures
    ∙ ap pair_lines c.as_slice.ensures))

pub returns-in-Err-Fault : goal.returns-in-Err-Fault
returns-in-Err-Fault g c =
    let is = rw c.in-Err-Fault.field-0-is at c.in-Err-Fault.ensures.exact in
    subst (λ said. IsEndingOrHalt said c.join_refused.result)
    (sym (says_join_verdict g.H.Hashes.of c.args.first.now c.args.second.now c.args.bytes.now
    (Err c.in-Err-Fault.fault) is))
    c.join_refused.ensures
