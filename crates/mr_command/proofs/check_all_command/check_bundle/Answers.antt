use Rattle.std.proofs.Common.{◌≤◌, length, sym, subst}
use Rattle.mr_query.specs.Script.{script_limit}
use Rattle.mr_command.specs.Ending.{RunsPlan}
use Rattle.mr_plan.specs.Say.{given_queries, say_parts}
use Rattle.mr_command.proofs.Bundles.{queries_follow}
use Rattle.mr_command.proofs.check_all_command.check_bundle.Goals as goal

pub check_file-requires-clause-few : goal.check_file-requires-clause-few
check_file-requires-clause-few g c κs within =
    subst (λ l. length l ≤ script_limit) (sym c.deref.ensures.value) c.in-Ok.ensures.length_at_most

pub returns-in-Ok : goal.returns-in-Ok
returns-in-Ok g c =
    let hash = g.H.Hashes.of in
    let root = c.args.root.now in
    let bundle = c.args.bundle.now in
    c.in-Ok.ensures.reads (given_queries (say_parts hash root bundle)) (queries_follow hash root bundle)
    (g.S.Shelf.state c.check_file.new.shelf) c.check_file.result
    (subst (λ queries. RunsPlan (say_parts hash root bundle queries) (g.S.Shelf.state c.queries_from.new.shelf)
    (g.S.Shelf.state c.check_file.new.shelf) c.check_file.result) c.deref.ensures.value c.check_file.ensures)

pub returns-in-Err : goal.returns-in-Err
returns-in-Err g c =
    let hash = g.H.Hashes.of in
    let root = c.args.root.now in
    let bundle = c.args.bundle.now in
    c.in-Err.ensures.reads (given_queries (say_parts hash root bundle)) (queries_follow hash root bundle)
