use Rattle.std.proofs.Common.{arith}
use Rattle.std.proofs.lemmas.Result.{err_from_is_err_and}
use Rattle.mr_check.proofs.Gathering.{unanswered, answered}
use Rattle.mr_check.proofs.client.answered_by.Goals as goal

pub returns-in_err-collected : goal.returns-in_err-collected
returns-in_err-collected g c =
    let p = err_from_is_err_and c.from_residual.result c.from_residual.ensures.1 in
    rw (p.1, p.2) (unanswered g.H.Hashes.of c.args.root.now c.args.q.now c.args.proof.now c.in_err-collected.field-0.0
    c.in_err-collected.ensures.exact)

pub returns : goal.returns
returns g c =
    answered g.H.Hashes.of c.args.root.now c.args.q.now c.args.proof.now c.in_ok-collected.collected
    c.in_ok-answer_of.field-0.items c.is_query.ensures (λ i. omega (arith, c.type_inv.proof i))
    c.in_ok-collected.ensures.exact c.in_ok-answer_of.ensures
