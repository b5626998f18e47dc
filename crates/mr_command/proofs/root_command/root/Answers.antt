use Rattle.std.proofs.Common.{refl}
use Rattle.std.specs.Prelude.{Ok}
use Rattle.mr_plan.specs.Plan.{comes}
use Rattle.mr_plan.specs.Say.{say_root_of}
use Rattle.mr_command.proofs.Going.{comes_given}
use Rattle.mr_command.proofs.Inputs.{says_text}
use Rattle.mr_command.proofs.root_command.root.Goals as goal

pub returns-in-Ok : goal.returns-in-Ok
returns-in-Ok g c =
    let said = say_root_of c.args.version g.H.Hashes.of in
    let after = g.S.Shelf.state c.records_from.new.shelf in
    c.in-Ok.ensures.reads (λ found. comes (said found)) (says_text said (λ f. refl)) after c.root_of_records.result
    (comes_given (said (Ok c.in-Ok.records.items)) after c.root_of_records.result refl c.root_of_records.ensures)

pub returns-in-Err : goal.returns-in-Err
returns-in-Err g c =
    let said = say_root_of c.args.version g.H.Hashes.of in
    c.in-Err.ensures.reads (λ found. comes (said found)) (says_text said (λ f. refl))
