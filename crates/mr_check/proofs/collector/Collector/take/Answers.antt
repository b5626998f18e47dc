use Rattle.std.proofs.lemmas.Result.{err_from_is_err_and}
use Rattle.mr_check.proofs.collector.Collector.take.Goals as goal

pub returns-clause-taken : goal.returns-clause-taken
returns-clause-taken g c = λ root bytes is. c.in_ok-gather.ensures root bytes is

pub returns-in_err-gather-clause-refused : goal.returns-in_err-gather-clause-refused
returns-in_err-gather-clause-refused g c =
    let p = err_from_is_err_and c.from_residual.result c.from_residual.ensures.1 in
    rw (p.1, p.2) (λ root bytes is. c.in_err-gather.ensures root bytes is)
