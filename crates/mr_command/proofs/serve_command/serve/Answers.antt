use Rattle.mr_query.specs.Script.{queries_of_text}
use Rattle.mr_plan.specs.Say.{opened_in, say_script, say_serve_of}
use Rattle.mr_command.proofs.Going.{comes_map, judged_needs}
use Rattle.mr_command.proofs.serve_command.serve.Goals as goal

pub returns-in-Ok : goal.returns-in-Ok
returns-in-Ok g c =
    let hash = g.H.Hashes.of in
    let script = c.args.script.now in
    let bundle = c.args.bundle.now in
    let before = g.S.Shelf.state c.args.shelf.now in
    let nodes = c.in-Ok.nodes in
    comes_map hash c.args.map.now (say_script hash script bundle) before (g.S.Shelf.state c.take_map.new.shelf)
    (g.S.Shelf.state c.serve_script.new.shelf) (opened_in nodes.nodes.items nodes.top) c.serve_script.result
    c.in-Ok.ensures.takes
    (λ m. judged_needs script (λ text. say_serve_of hash bundle m (queries_of_text text)) before.files)
    c.serve_script.ensures

pub returns-in-Err : goal.returns-in-Err
returns-in-Err g c =
    let hash = g.H.Hashes.of in
    let script = c.args.script.now in
    let bundle = c.args.bundle.now in
    c.in-Err.ensures.takes (say_script hash script bundle)
    (λ m. judged_needs script (λ text. say_serve_of hash bundle m (queries_of_text text))
    (g.S.Shelf.state c.args.shelf.now).files)
