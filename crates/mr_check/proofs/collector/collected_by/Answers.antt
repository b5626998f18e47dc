use Rattle.std.proofs.Common.{[]}
use Rattle.std.proofs.lemmas.Result.{err_from_is_err_and}
use Rattle.mr_check.proofs.Gathering.{stopped}
use Rattle.mr_check.proofs.collector.collected_by.Goals as goal

pub returns-in_err-taken : goal.returns-in_err-taken
returns-in_err-taken g c =
    let p = err_from_is_err_and c.from_residual-in_err-taken.result c.from_residual-in_err-taken.ensures.1 in
    rw (p.1, p.2) (stopped g.H.Hashes.of c.args.root.now (g.A.AsQuestion.question c.args.q.now) c.args.proof.now
    c.in_err-taken.field-0.0 (c.in_err-taken.ensures.refused c.args.root.now [] c.in_ok-collector.ensures))

pub returns : goal.returns
returns g c =
    c.end.ensures.exact c.args.root.now c.args.proof.now
    (c.in_ok-taken.ensures.taken c.args.root.now [] c.in_ok-collector.ensures).0
