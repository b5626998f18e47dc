use Rattle.std.proofs.Common.{refl}
use Rattle.std.specs.Prelude.{Ok}
use Rattle.mr_plan.specs.Plan.{comes}
use Rattle.mr_plan.specs.Say.{say_list_of}
use Rattle.mr_command.proofs.Going.{comes_map, comes_at_once}
use Rattle.mr_command.proofs.Verdicts.{gives}
use Rattle.mr_command.proofs.list_command.list.Goals as goal

pub returns-in-Ok : goal.returns-in-Ok
returns-in-Ok g c =
    let after = g.S.Shelf.state c.open_map.new.shelf in
    comes_map g.H.Hashes.of c.args.name.now (λ map. comes (say_list_of map))
    (g.S.Shelf.state c.args.shelf.now) after after c.in-Ok.map (Ok c.tree.result) c.in-Ok.ensures.opens (λ map. tt)
    (comes_at_once (say_list_of c.in-Ok.map) after c.tree.result refl
    (gives (say_list_of c.in-Ok.map) c.tree.result ((λ e. cc), (λ e. cc)) c.tree.ensures.status
    c.tree.ensures.printed))

pub returns-in-Err : goal.returns-in-Err
returns-in-Err g c = c.in-Err.ensures.opens (λ map. comes (say_list_of map)) (λ map. tt)
