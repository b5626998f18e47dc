use Rattle.mr_tree.specs.Digest.{by}
use Rattle.mr_proof.proofs.PreimageBytes.{IsSized}
use Rattle.mr_proof.proofs.Laws.{is_lawful}
use Rattle.mr_proof.proofs.Complete.{accepts_honest, honest_stands, honest_short}
use Rattle.mr_proof.specs.Tight.{question}
use Rattle.mr_proof.proofs.honest.honest_is_accepted.Goals as goal

pub returns-clause-accepted : goal.returns-clause-accepted
returns-clause-accepted g c =
    let sized : IsSized g.H.Hashes.of = record { long = g.met.H.Hashes.sized; bytes = g.met.H.Hashes.bytes } in
    λ v. accepts_honest (by v g.H.Hashes.of) sized c.args.q.now c.is_query.ensures

pub returns-clause-honest : goal.returns-clause-honest
returns-clause-honest g c =
    let sized : IsSized g.H.Hashes.of = record { long = g.met.H.Hashes.sized; bytes = g.met.H.Hashes.bytes } in
    λ v t batch may well layers low. honest_stands (by v g.H.Hashes.of) sized (question c.args.q.now)
    (is_lawful c.args.q.now c.is_query.ensures) t batch may well layers low

pub returns-clause-short : goal.returns-clause-short
returns-clause-short g c =
    let sized : IsSized g.H.Hashes.of = record { long = g.met.H.Hashes.sized; bytes = g.met.H.Hashes.bytes } in
    λ v t batch well. honest_short (by v g.H.Hashes.of) sized (question c.args.q.now)
    (is_lawful c.args.q.now c.is_query.ensures) t batch well
