use Rattle.std.proofs.Common.{◌++◌, sym, subst}
use Rattle.std.proofs.lemmas.Result.{err_from_is_err_and}
use Rattle.mr_query.specs.declared.query.Query.{Query}
use Rattle.mr_proof.specs.Tight.{question}
use Rattle.mr_proof.specs.Feeding.{IsUnsettled}
use Rattle.mr_check.specs.Judged.{HasCollected, IsStopped}
use Rattle.mr_check.proofs.piece_check.PieceCheck.take.Goals as goal

pub returns-clause-taken : goal.returns-clause-taken
returns-clause-taken g c = λ root q bytes is.
    let now = c.in_ok-collector.ensures.taken root bytes
    (subst (λ (z : Query). HasCollected g.H.Hashes.of g.H.Hashes.holds root (question z) c.args.self.collector bytes)
    (sym is.asked) is.took) in (
      record {
        asked = is.asked;
        is = is.is;
        took = subst (λ (z : Query). HasCollected g.H.Hashes.of g.H.Hashes.holds root (question z)
            c.in_ok-collector.collector
            (bytes ++ c.args.piece.now)) is.asked now.0;
      },
      subst (λ (z : Query). IsUnsettled g.H.Hashes.of root (question z) (bytes ++ c.args.piece.now)) is.asked now.1,
    )

pub returns-in_err-collector-clause-refused : goal.returns-in_err-collector-clause-refused
returns-in_err-collector-clause-refused g c =
    let p = err_from_is_err_and c.from_residual.result c.from_residual.ensures.1 in
    rw (p.1, p.2) (λ root q bytes is.
    subst (λ (z : Query). IsStopped g.H.Hashes.of root (question z) (bytes ++ c.args.piece.now)
    c.in_err-collector.field-0.0)
    is.asked (c.in_err-collector.ensures.refused root bytes
    (subst (λ (z : Query). HasCollected g.H.Hashes.of g.H.Hashes.holds root (question z) c.args.self.collector bytes)
    (sym is.asked) is.took)))
