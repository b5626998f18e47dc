use Rattle.mr_plan.specs.Plan.{comes}
use Rattle.mr_plan.specs.Say.{opened_in, say_join_of}
use Rattle.mr_command.proofs.Going.{comes_map}
use Rattle.mr_command.proofs.join_command.join_file.Goals as goal

pub returns-in-Ok : goal.returns-in-Ok
returns-in-Ok g c =
    let hash = g.H.Hashes.of in
    let one = opened_in c.args.first.now.nodes.items c.args.first.now.top in
    let nodes = c.in-Ok.nodes in
    comes_map hash c.args.second.now (λ other. comes (say_join_of hash c.args.proof.now one other))
    (g.S.Shelf.state c.args.shelf.now) (g.S.Shelf.state c.take_map.new.shelf) (g.S.Shelf.state c.join_maps.new.shelf)
    (opened_in nodes.nodes.items nodes.top) c.join_maps.result c.in-Ok.ensures.takes (λ other. tt) c.join_maps.ensures

pub returns-in-Err : goal.returns-in-Err
returns-in-Err g c =
    let one = opened_in c.args.first.now.nodes.items c.args.first.now.top in
    c.in-Err.ensures.takes (λ other. comes (say_join_of g.H.Hashes.of c.args.proof.now one other)) (λ other. tt)
