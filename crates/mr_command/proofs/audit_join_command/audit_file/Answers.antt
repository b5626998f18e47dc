use Rattle.mr_plan.specs.Say.{opened_in, say_beside_maps}
use Rattle.mr_command.proofs.Going.{comes_map}
use Rattle.mr_command.proofs.Joined.{goes_beside}
use Rattle.mr_command.proofs.audit_join_command.audit_file.Goals as goal

pub returns-in-Ok : goal.returns-in-Ok
returns-in-Ok g c =
    let hash = g.H.Hashes.of in
    let one = opened_in c.args.first.now.nodes.items c.args.first.now.top in
    let nodes = c.in-Ok.nodes in
    let before = g.S.Shelf.state c.args.shelf.now in
    comes_map hash c.args.second.now (say_beside_maps hash c.args.proof.now one) before
    (g.S.Shelf.state c.take_map.new.shelf) (g.S.Shelf.state c.audit_maps.new.shelf)
    (opened_in nodes.nodes.items nodes.top) c.audit_maps.result c.in-Ok.ensures.takes
    (goes_beside hash c.args.proof.now before.files one) c.audit_maps.ensures

pub returns-in-Err : goal.returns-in-Err
returns-in-Err g c =
    let hash = g.H.Hashes.of in
    let one = opened_in c.args.first.now.nodes.items c.args.first.now.top in
    c.in-Err.ensures.takes (say_beside_maps hash c.args.proof.now one)
    (goes_beside hash c.args.proof.now (g.S.Shelf.state c.args.shelf.now).files one)
