use Rattle.mr_tree.specs.Digest.{by}
use Rattle.mr_record.proofs.Encodings.{IsBytes-from}
use Rattle.mr_proof.proofs.PreimageBytes.{IsSized}
use Rattle.mr_proof.proofs.Worth.{accepted_headline, others_fail}
use Rattle.mr_check.proofs.ending.accepted_are_honest.Goals as goal

pub returns-clause-accepted : goal.returns-clause-accepted
returns-clause-accepted g c =
    let sized : IsSized g.H.Hashes.of = record { long = g.met.H.Hashes.sized; bytes = g.met.H.Hashes.bytes } in
    λ v q bytes is fits. accepted_headline (by v g.H.Hashes.of) sized q bytes is (IsBytes-from bytes fits)

pub returns-clause-others : goal.returns-clause-others
returns-clause-others g c =
    let sized : IsSized g.H.Hashes.of = record { long = g.met.H.Hashes.sized; bytes = g.met.H.Hashes.bytes } in
    λ v q bytes is fits. others_fail (by v g.H.Hashes.of) sized q bytes is (IsBytes-from bytes fits)
