use Rattle.std.proofs.Common.{refl, sym, subst, ◌∙◌}
use Rattle.std.specs.Prelude.{Ok, Err}
use Rattle.mr_command.specs.Ending.{IsEndingOrHalt, RunsPlan}
use Rattle.mr_plan.specs.Lines.{needs_version_2_line}
use Rattle.mr_plan.specs.Plan.{comes}
use Rattle.mr_plan.specs.Say.{ends, opened_in, say_audit_join_of}
use Rattle.mr_plan.specs.declared.status.Status.TheVariants.{NeedsVersion2}
use Rattle.mr_command.proofs.Going.{comes_given}
use Rattle.mr_command.proofs.Inputs.{goes_needed, says_bytes}
use Rattle.mr_command.proofs.Joined.{audit_join_writes, beside_first, beside_second}
use Rattle.mr_command.proofs.audit_join_command.audit_maps.Goals as goal

-- one of the maps is of version 1
pub returns-then-lack_join : goal.returns-then-lack_join
returns-then-lack_join g c =
    let one = opened_in c.args.first.now.nodes.items c.args.first.now.top in
    let other = opened_in c.args.second.now.nodes.items c.args.second.now.top in
    let before = g.S.Shelf.state c.args.shelf.now in
    subst (λ plan. RunsPlan plan before before c.without_proof.result)
    (beside_first g.H.Hashes.of c.args.proof.now one other (sym c.lack_join.ensures ∙ c.if-lack_join.true))
    (comes_given (ends NeedsVersion2 needs_version_2_line) before c.without_proof.result refl c.without_proof.ensures)

pub returns-in-Ok : goal.returns-in-Ok
returns-in-Ok g c =
    let hash = g.H.Hashes.of in
    let one = opened_in c.args.first.now.nodes.items c.args.first.now.top in
    let other = opened_in c.args.second.now.nodes.items c.args.second.now.top in
    let said = say_audit_join_of hash one other in
    let before = g.S.Shelf.state c.args.shelf.now in
    let after = g.S.Shelf.state c.needed.new.shelf in
    subst (λ plan. RunsPlan plan before after c.audit_bytes.result)
    (beside_second hash c.args.proof.now one other (sym c.lack_join.ensures ∙ c.if-lack_join.false))
    (goes_needed c.args.proof.now (λ bytes. comes (said bytes)) before after (says_bytes said before.files)
    (Ok c.in-Ok.bytes) c.in-Ok.ensures after c.audit_bytes.result
    (comes_given (said c.in-Ok.bytes.items) after c.audit_bytes.result
    (audit_join_writes hash one other c.in-Ok.bytes.items)
    (subst (λ bytes. IsEndingOrHalt (said bytes) c.audit_bytes.result) c.deref.ensures.value c.audit_bytes.ensures)))

pub returns-in-Err : goal.returns-in-Err
returns-in-Err g c =
    let hash = g.H.Hashes.of in
    let one = opened_in c.args.first.now.nodes.items c.args.first.now.top in
    let other = opened_in c.args.second.now.nodes.items c.args.second.now.top in
    let said = say_audit_join_of hash one other in
    let before = g.S.Shelf.state c.args.shelf.now in
    let after = g.S.Shelf.state c.needed.new.shelf in
    subst (λ plan. RunsPlan plan before after c.in-Err.came)
    (beside_second hash c.args.proof.now one other (sym c.lack_join.ensures ∙ c.if-lack_join.false))
    (goes_needed c.args.proof.now (λ bytes. comes (said bytes)) before after (says_bytes said before.files)
    (Err c.in-Err.came) c.in-Err.ensures)
