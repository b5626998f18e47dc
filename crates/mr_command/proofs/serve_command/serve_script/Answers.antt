use Rattle.std.proofs.Common.{subst}
use Rattle.std.specs.Prelude.{Ok}
use Rattle.mr_command.specs.Ending.{RunsPlan}
use Rattle.mr_plan.specs.Plan.{comes}
use Rattle.mr_plan.specs.Say.{opened_in, say_serve_of}
use Rattle.mr_command.proofs.Bundles.{served_follows}
use Rattle.mr_command.proofs.serve_command.serve_script.Goals as goal

pub returns-in-Ok : goal.returns-in-Ok
returns-in-Ok g c =
    let hash = g.H.Hashes.of in
    let bundle = c.args.bundle.now in
    let map = opened_in c.args.nodes.now.nodes.items c.args.nodes.now.top in
    let after = g.S.Shelf.state c.serve_queries.new.shelf in
    c.in-Ok.ensures.reads (λ found. comes (say_serve_of hash bundle map found)) (served_follows hash bundle map) after
    c.serve_queries.result
    (subst (λ queries. RunsPlan (comes (say_serve_of hash bundle map (Ok queries)))
    (g.S.Shelf.state c.queries_from.new.shelf) after c.serve_queries.result) c.deref.ensures.value
    c.serve_queries.ensures)

pub returns-in-Err : goal.returns-in-Err
returns-in-Err g c =
    let hash = g.H.Hashes.of in
    let bundle = c.args.bundle.now in
    let map = opened_in c.args.nodes.now.nodes.items c.args.nodes.now.top in
    c.in-Err.ensures.reads (λ found. comes (say_serve_of hash bundle map found)) (served_follows hash bundle map)
