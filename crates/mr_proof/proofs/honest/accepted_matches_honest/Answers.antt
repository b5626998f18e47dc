use Rattle.std.proofs.Common.{arith}
use Rattle.mr_tree.specs.Digest.{by}
use Rattle.mr_proof.proofs.PreimageBytes.{IsSized}
use Rattle.mr_proof.proofs.Worth.{accepted_matches_honest}
use Rattle.mr_proof.proofs.honest.accepted_matches_honest.Goals as goal

pub returns : goal.returns
returns g c =
    let sized : IsSized g.H.Hashes.of = record { long = g.met.H.Hashes.sized; bytes = g.met.H.Hashes.bytes } in
    λ v a law. accepted_matches_honest (by v g.H.Hashes.of) sized a law c.args._bytes.now
    (λ i. omega (arith, c.type_inv._bytes i))
