use Rattle.std.proofs.Common.{sym, subst}
use Rattle.std.specs.Prelude.{Ok, Err}
use Rattle.std.proofs.lemmas.Result.{err_from_is_err_and}
use Rattle.mr_query.specs.declared.query.Query.{Query}
use Rattle.mr_record.proofs.Encodings.{IsBytes-from}
use Rattle.mr_proof.specs.Tight.{question}
use Rattle.mr_proof.proofs.Handed.{hands_opened}
use Rattle.mr_check.specs.Judged.{WasFed, EndsAs}
use Rattle.mr_check.proofs.Judging.{query_ends}
use Rattle.mr_check.proofs.judge.Judge.end.Goals as goal

pub returns-in_err-end-clause-verdict : goal.returns-in_err-end-clause-verdict
returns-in_err-end-clause-verdict g c =
    let p = err_from_is_err_and c.from_residual.result c.from_residual.ensures.1 in
    rw (p.1, p.2) (λ root q bytes s.
    query_ends g.H.Hashes.of root q bytes (Err c.in_err-end.field-0.0) s.is (IsBytes-from bytes s.fed.fed)
    (subst (λ (z : Query). EndsAs g.H.Hashes.of root (question z) bytes (Err c.in_err-end.field-0.0)) s.asked
    (c.in_err-end.ensures.closing root bytes
    (subst (λ (z : Query). WasFed g.H.Hashes.of g.H.Hashes.holds root (question z) c.args.self.verifier bytes)
    (sym s.asked) s.fed))))

pub returns-clause-verdict : goal.returns-clause-verdict
returns-clause-verdict g c = λ root q bytes s.
    query_ends g.H.Hashes.of root q bytes (Ok c.in_ok-end.field-0) s.is (IsBytes-from bytes s.fed.fed)
    (subst (λ (z : Query). EndsAs g.H.Hashes.of root (question z) bytes (Ok c.in_ok-end.field-0)) s.asked
    (c.in_ok-end.ensures.closing root bytes
    (subst (λ (z : Query). WasFed g.H.Hashes.of g.H.Hashes.holds root (question z) c.args.self.verifier bytes)
    (sym s.asked) s.fed)))

pub returns-in_err-end-clause-accepted : goal.returns-in_err-end-clause-accepted
returns-in_err-end-clause-accepted g c = λ v root q bytes s.
    c.accepted_are_honest.ensures.accepted v q bytes s.is s.fed.fed

pub returns-in_err-end-clause-other_strings : goal.returns-in_err-end-clause-other_strings
returns-in_err-end-clause-other_strings g c = λ v root q bytes s.
    c.accepted_are_honest.ensures.others v q bytes s.is s.fed.fed

pub returns-clause-accepted : goal.returns-clause-accepted
returns-clause-accepted g c = λ v root q bytes s.
    c.accepted_are_honest.ensures.accepted v q bytes s.is s.fed.fed

pub returns-clause-other_strings : goal.returns-clause-other_strings
returns-clause-other_strings g c = λ v root q bytes s.
    c.accepted_are_honest.ensures.others v q bytes s.is s.fed.fed

pub returns-in_err-end-clause-handed : goal.returns-in_err-end-clause-handed
returns-in_err-end-clause-handed g c = λ root q bytes s. hands_opened (question q) bytes

pub returns-clause-handed : goal.returns-clause-handed
returns-clause-handed g c = λ root q bytes s. hands_opened (question q) bytes
