use Rattle.std.proofs.Common.{subst}
use Rattle.std.specs.Prelude.{Ok, Err}
use Rattle.mr_command.specs.Ending.{IsEndingOrHalt}
use Rattle.mr_plan.specs.Plan.{comes}
use Rattle.mr_plan.specs.Say.{say_check_join_of}
use Rattle.mr_command.proofs.Going.{comes_given}
use Rattle.mr_command.proofs.Inputs.{goes_needed, says_bytes}
use Rattle.mr_command.proofs.Joined.{check_join_writes}
use Rattle.mr_command.proofs.check_join_command.check_join_proof.Goals as goal

pub returns-in-Ok : goal.returns-in-Ok
returns-in-Ok g c =
    let hash = g.H.Hashes.of in
    let said = say_check_join_of hash c.args.first.now c.args.second.now in
    let before = g.S.Shelf.state c.args.shelf.now in
    let after = g.S.Shelf.state c.needed.new.shelf in
    goes_needed c.args.name.now (λ bytes. comes (said bytes)) before after (says_bytes said before.files)
    (Ok c.in-Ok.bytes) c.in-Ok.ensures after c.check_bytes.result
    (comes_given (said c.in-Ok.bytes.items) after c.check_bytes.result
    (check_join_writes hash c.args.first.now c.args.second.now c.in-Ok.bytes.items)
    (subst (λ bytes. IsEndingOrHalt (said bytes) c.check_bytes.result) c.deref.ensures.value c.check_bytes.ensures))

pub returns-in-Err : goal.returns-in-Err
returns-in-Err g c =
    let said = say_check_join_of g.H.Hashes.of c.args.first.now c.args.second.now in
    let before = g.S.Shelf.state c.args.shelf.now in
    goes_needed c.args.name.now (λ bytes. comes (said bytes)) before (g.S.Shelf.state c.needed.new.shelf)
    (says_bytes said before.files) (Err c.in-Err.came) c.in-Err.ensures
