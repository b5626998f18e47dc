use Rattle.mr_tree.specs.Digest.{by}
use Rattle.mr_proof.proofs.PreimageBytes.{IsSized}
use Rattle.mr_proof.proofs.Complete.{accepts_own, honest_stands}
use Rattle.mr_proof.proofs.NoClash.{own_quiet}
use Rattle.mr_proof.proofs.honest.honest_proof_is_accepted.Goals as goal

pub returns-clause-accepted : goal.returns-clause-accepted
returns-clause-accepted g c =
    let sized : IsSized g.H.Hashes.of = record { long = g.met.H.Hashes.sized; bytes = g.met.H.Hashes.bytes } in
    λ v a law. accepts_own (by v g.H.Hashes.of) sized a law

pub returns-clause-honest : goal.returns-clause-honest
returns-clause-honest g c =
    let sized : IsSized g.H.Hashes.of = record { long = g.met.H.Hashes.sized; bytes = g.met.H.Hashes.bytes } in
    λ v a law t batch may well layers low.
    honest_stands (by v g.H.Hashes.of) sized a law t batch may well layers low

pub returns-clause-quiet : goal.returns-clause-quiet
returns-clause-quiet g c =
    let sized : IsSized g.H.Hashes.of = record { long = g.met.H.Hashes.sized; bytes = g.met.H.Hashes.bytes } in
    λ v a law. own_quiet (by v g.H.Hashes.of) sized a law
