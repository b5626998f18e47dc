use Rattle.mr_plan.specs.Plan.{comes}
use Rattle.mr_plan.specs.Say.{say_upgrade_of}
use Rattle.mr_command.proofs.Going.{comes_map}
use Rattle.mr_command.proofs.upgrade_command.upgrade.Goals as goal

pub returns-in-Ok : goal.returns-in-Ok
returns-in-Ok g c =
    let hash = g.H.Hashes.of in
    comes_map hash c.args.old.now (λ map. comes (say_upgrade_of hash c.args.new.now map))
    (g.S.Shelf.state c.args.shelf.now) (g.S.Shelf.state c.open_map.new.shelf)
    (g.S.Shelf.state c.save_map.new.shelf) c.in-Ok.map c.save_map.result c.in-Ok.ensures.opens (λ map. tt)
    c.save_map.ensures

pub returns-in-Err : goal.returns-in-Err
returns-in-Err g c =
    c.in-Err.ensures.opens (λ map. comes (say_upgrade_of g.H.Hashes.of c.args.new.now map)) (λ map. tt)
