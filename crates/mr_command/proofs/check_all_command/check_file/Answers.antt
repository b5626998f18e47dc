use Rattle.mr_plan.specs.Plan.{comes}
use Rattle.mr_plan.specs.Say.{say_parts_of}
use Rattle.mr_command.proofs.Bundles.{parts_given}
use Rattle.mr_command.proofs.Inputs.{goes_needed, says_bytes}
use Rattle.std.specs.Prelude.{Ok, Err}
use Rattle.mr_command.proofs.check_all_command.check_file.Goals as goal

pub returns-in-Ok : goal.returns-in-Ok
returns-in-Ok g c =
    let hash = g.H.Hashes.of in
    let root = c.args.root.now in
    let queries = c.args.queries.now in
    let said = say_parts_of hash root queries in
    let before = g.S.Shelf.state c.args.shelf.now in
    let after = g.S.Shelf.state c.needed.new.shelf in
    goes_needed c.args.bundle.now (λ bytes. comes (said bytes)) before after (says_bytes said before.files)
    (Ok c.in-Ok.bytes) c.in-Ok.ensures after c.check_bytes.result
    (parts_given hash root queries c.in-Ok.bytes.items after c.check_bytes.result c.check_bytes.ensures)

pub returns-in-Err : goal.returns-in-Err
returns-in-Err g c =
    let said = say_parts_of g.H.Hashes.of c.args.root.now c.args.queries.now in
    let before = g.S.Shelf.state c.args.shelf.now in
    goes_needed c.args.bundle.now (λ bytes. comes (said bytes)) before (g.S.Shelf.state c.needed.new.shelf)
    (says_bytes said before.files) (Err c.in-Err.came) c.in-Err.ensures
