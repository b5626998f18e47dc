use Rattle.std.proofs.Common.{subst, List, ℕ}
use Rattle.mr_record.proofs.Encodings.{IsBytes-from}
use Rattle.mr_tree.specs.Digest.{by}
use Rattle.mr_proof.proofs.Handed.{hands_opened}
use Rattle.mr_proof.proofs.PreimageBytes.{IsSized}
use Rattle.mr_proof.proofs.Worth.{accepted_matches_honest}
use Rattle.mr_check.specs.Judged.{EndsAs}
use Rattle.mr_check.proofs.verifier.Verifier.end.Goals as goal

pub returns-clause-closing : goal.returns-clause-closing
returns-clause-closing g c = λ root bytes s.
    subst (λ (r : List ℕ). EndsAs g.H.Hashes.of r (g.A.AsQuestion.question c.args.q.now) bytes c.verdict_of.result)
    s.held_root
    (c.verdict_of.ensures bytes s.lawful s.stands)

pub returns-clause-handed : goal.returns-clause-handed
returns-clause-handed g c = λ root bytes s. hands_opened (g.A.AsQuestion.question c.args.q.now) bytes

pub returns-clause-accepted : goal.returns-clause-accepted
returns-clause-accepted g c =
    let sized : IsSized g.H.Hashes.of = record { long = g.met.H.Hashes.sized; bytes = g.met.H.Hashes.bytes } in
    λ v root bytes s. accepted_matches_honest (by v g.H.Hashes.of) sized (g.A.AsQuestion.question c.args.q.now)
    s.lawful bytes (IsBytes-from bytes s.fed)
