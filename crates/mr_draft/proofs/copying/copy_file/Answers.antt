use Rattle.std.proofs.lemmas.Result.{err_from_is_err_and}
use Rattle.mr_draft.proofs.copying.copy_file.Goals as goal

pub returns-in_err-begin-clause-copied : goal.returns-in_err-begin-clause-copied
returns-in_err-begin-clause-copied g c = λ there.
    let p = err_from_is_err_and c.from_residual-in_err-begin.result c.from_residual-in_err-begin.ensures.1 in
    rw (p.1, p.2) (c.in_err-begin.ensures.copied c.args.old.now)
