use Rattle.std.proofs.Common.{inl, subst}
use Rattle.std.proofs.lemmas.Result.{err_from_is_err_and}
use Rattle.mr_pages.specs.Walking.{AnswersHead}
use Rattle.mr_pages.proofs.Giving.{err_settles, gives_file, no_more, behind_err, checks_stopped, head_breaks}
use Rattle.mr_pages.proofs.checking.check.Goals as goal

pub returns-in_err-made-in-Ok-clause-told : goal.returns-in_err-made-in-Ok-clause-told
returns-in_err-made-in-Ok-clause-told g c = λ file is ver same.
    let p = err_from_is_err_and c.from_residual.result c.from_residual.ensures.1 in
    rw (p.1, p.2) (checks_stopped (Unit {0}) g.P.Hash.Hashes.of file c.in_err-made-in-Ok.field-0.0
    c.in_err-made-in-Ok.ensures.told (λ all. (all.so file (inl is)).checks ver same
    (subst (λ r. AnswersHead r file.head) c.in-Ok.is (c.head.ensures.shows.so file (inl is)))))

pub returns-in_err-made-in-Ok-clause-of_some_bytes : goal.returns-in_err-made-in-Ok-clause-of_some_bytes
returns-in_err-made-in-Ok-clause-of_some_bytes g c =
    let p = err_from_is_err_and c.from_residual.result c.from_residual.ensures.1 in
    let s = g.P.Source.state c.args.pages.now in
    let e = c.in_err-made-in-Ok.field-0.0 in
    rw (p.1, p.2) (err_settles (Unit {0}) (Unit {0}) e c.in_err-made-in-Ok.ensures.told (λ all.
    gives_file s _ _ c.head.ensures.shows all _ (λ f first walked. record {
      checks = λ ver same. behind_err (Unit {0}) g.P.Hash.Hashes.of f e (walked.checks ver same
          (subst (λ r. AnswersHead r f.head) c.in-Ok.is first));
      made = tt;
    }) c.requires))

pub returns-in-Err-clause-told : goal.returns-in-Err-clause-told
returns-in-Err-clause-told g c = λ file is ver same.
    head_breaks g.P.Hash.Hashes.of file c.in-Err.rule
    (subst (λ r. AnswersHead r file.head) c.in-Err.is (c.head.ensures.shows.so file (inl is)))

pub returns-in-Err-clause-of_some_bytes : goal.returns-in-Err-clause-of_some_bytes
returns-in-Err-clause-of_some_bytes g c =
    let s = g.P.Source.state c.args.pages.now in
    gives_file s _ _ c.head.ensures.shows (no_more s) _ (λ f first walked. record {
      checks = λ ver same. head_breaks g.P.Hash.Hashes.of f c.in-Err.rule
          (subst (λ r. AnswersHead r f.head) c.in-Err.is first);
      made = tt;
    }) c.requires

pub returns-in_ok-made-in-Ok-clause-told : goal.returns-in_ok-made-in-Ok-clause-told
returns-in_ok-made-in-Ok-clause-told g c = λ file is ver same.
    let head = subst (λ r. AnswersHead r file.head) c.in-Ok.is (c.head.ensures.shows.so file (inl is)) in
    ((c.in_ok-made-in-Ok.ensures.told.so file (inl is)).checks ver same head, head)

pub returns-in_ok-made-in-Ok-clause-of_some_bytes : goal.returns-in_ok-made-in-Ok-clause-of_some_bytes
returns-in_ok-made-in-Ok-clause-of_some_bytes g c =
    let s = g.P.Source.state c.args.pages.now in
    gives_file s _ _ c.head.ensures.shows c.in_ok-made-in-Ok.ensures.told _ (λ f first walked.
    let head = subst (λ r. AnswersHead r f.head) c.in-Ok.is first in
    record { checks = λ ver same. (walked.checks ver same head, head); made = walked.made }) c.requires
