use Rattle.std.proofs.Common.{sym, ap, subst, ◌∙◌}
use Rattle.std.specs.Prelude.{Ok, Err}
use Rattle.mr_count.specs.Chosen.{total_whole}
use Rattle.mr_command.specs.Ending.{IsEndingOf, IsEndingOrHalt}
use Rattle.mr_command.specs.private.Windows.{ways_inside}
use Rattle.mr_plan.specs.Lines.{counted_line}
use Rattle.mr_plan.specs.Say.{prints}
use Rattle.mr_command.proofs.Verdicts.{gives, says_count_verdict}
use Rattle.mr_command.proofs.check_count_command.check_bytes.Goals as goal

pub returns-in_ok-line-in-Ok : goal.returns-in_ok-line-in-Ok
returns-in_ok-line-in-Ok g c =
    let way = ways_inside c.args.inside.now in
    let number = total_whole way c.in-Ok.taken in
    subst (λ said. IsEndingOf said c.line.result)
    (sym (says_count_verdict g.H.Hashes.of c.args.root.now way c.args.bytes.now (Ok c.in-Ok.taken)
    c.in-Ok.ensures.exact))
    (gives (prints (counted_line number)) c.line.result ((λ e. cc), (λ e. cc)) c.line.ensures.status
    (c.line.ensures.printed ∙ c.in_ok-line-in-Ok.ensures ∙ ap counted_line c.count_of.ensures))

pub returns-in-Err-Fault : goal.returns-in-Err-Fault
returns-in-Err-Fault g c =
    let is = rw c.in-Err-Fault.field-0-is at c.in-Err-Fault.ensures.exact in
    subst (λ said. IsEndingOrHalt said c.refused.result)
    (sym (says_count_verdict g.H.Hashes.of c.args.root.now (ways_inside c.args.inside.now) c.args.bytes.now
    (Err c.in-Err-Fault.fault) is))
    c.refused.ensures
