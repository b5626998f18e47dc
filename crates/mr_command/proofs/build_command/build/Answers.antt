use Rattle.std.proofs.Common.{refl}
use Rattle.mr_plan.specs.Plan.{comes}
use Rattle.mr_plan.specs.Say.{say_build_of}
use Rattle.mr_command.proofs.Inputs.{says_text}
use Rattle.mr_command.proofs.build_command.build.Goals as goal

pub returns-in-Ok : goal.returns-in-Ok
returns-in-Ok g c =
    let said = say_build_of c.args.version g.H.Hashes.of c.args.map.now in
    c.in-Ok.ensures.reads (λ found. comes (said found)) (says_text said (λ f. refl))
    (g.S.Shelf.state c.build_records.new.shelf) c.build_records.result c.build_records.ensures

pub returns-in-Err : goal.returns-in-Err
returns-in-Err g c =
    let said = say_build_of c.args.version g.H.Hashes.of c.args.map.now in
    c.in-Err.ensures.reads (λ found. comes (said found)) (says_text said (λ f. refl))
