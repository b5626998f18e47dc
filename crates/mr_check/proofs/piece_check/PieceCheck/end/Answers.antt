use Rattle.std.proofs.Common.{◌≡◌, subst, sym}
use Rattle.std.proofs.lemmas.Result.{err_from_is_err_and}
use Rattle.mr_query.specs.declared.query.Query.{Query}
use Rattle.mr_query.specs.Scan.{scan}
use Rattle.mr_record.proofs.Encodings.{IsBytes-from}
use Rattle.mr_proof.specs.Tight.{question}
use Rattle.mr_check.specs.Judged.{HasCollected, AnswersCollected}
use Rattle.std.specs.Prelude.{Ok, Err}
use Rattle.mr_check.proofs.Gathering.{answered}
use Rattle.mr_check.proofs.Versions.{beside, unanswered_beside}
use Rattle.mr_check.proofs.piece_check.PieceCheck.end.Goals as goal

pub returns-in_err-collected : goal.returns-in_err-collected
returns-in_err-collected g c =
    let p = err_from_is_err_and c.from_residual.result c.from_residual.ensures.1 in
    rw (p.1, p.2) (λ root q bytes is.
    unanswered_beside g.H.Hashes.of root q bytes c.in_err-collected.field-0.0
    (subst (λ (z : Query). AnswersCollected g.H.Hashes.of root (question z) bytes (Err c.in_err-collected.field-0.0))
    is.asked
    (c.in_err-collected.ensures.exact root bytes
    (subst (λ (z : Query). HasCollected g.H.Hashes.of g.H.Hashes.holds root (question z) c.args.self.collector bytes)
    (sym is.asked) is.took))))

pub returns : goal.returns
returns g c = λ root q bytes is.
    let got = subst (λ (z : Query). AnswersCollected g.H.Hashes.of root (question z) bytes
    (Ok c.in_ok-collected.collected)) is.asked
    (c.in_ok-collected.ensures.exact root bytes
    (subst (λ (z : Query). HasCollected g.H.Hashes.of g.H.Hashes.holds root (question z) c.args.self.collector bytes)
    (sym is.asked) is.took)) in
    let fits = IsBytes-from bytes is.took.stands.fed in (
      answered g.H.Hashes.of root q bytes c.in_ok-collected.collected c.in_ok-answer_of.field-0.items is.is fits got
          (subst (λ (z : Query). c.in_ok-answer_of.field-0.items
          ≡ scan c.in_ok-collected.collected.records.items z) is.asked c.in_ok-answer_of.ensures),
      beside g.H.Hashes.of root q bytes c.in_ok-collected.collected fits got,
    )
