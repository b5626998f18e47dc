use Rattle.std.proofs.Common.{arith}
use Rattle.mr_tree.specs.Digest.{by}
use Rattle.mr_proof.proofs.PreimageBytes.{IsSized}
use Rattle.mr_proof.proofs.NoClash.{honest_quiet}
use Rattle.mr_proof.proofs.Worth.{headline, accepted_headline, others_fail}
use Rattle.mr_proof.proofs.honest.accepted_is_honest.Goals as goal

pub returns-clause-headline : goal.returns-clause-headline
returns-clause-headline g c =
    let sized : IsSized g.H.Hashes.of = record { long = g.met.H.Hashes.sized; bytes = g.met.H.Hashes.bytes } in
    λ v. headline (by v g.H.Hashes.of) sized c.args.q.now c.args._bytes.now c.is_query.ensures

pub returns-clause-accepted : goal.returns-clause-accepted
returns-clause-accepted g c =
    let sized : IsSized g.H.Hashes.of = record { long = g.met.H.Hashes.sized; bytes = g.met.H.Hashes.bytes } in
    λ v. accepted_headline (by v g.H.Hashes.of) sized c.args.q.now c.args._bytes.now c.is_query.ensures
    (λ i. omega (arith, c.type_inv._bytes i))

pub returns-clause-others : goal.returns-clause-others
returns-clause-others g c =
    let sized : IsSized g.H.Hashes.of = record { long = g.met.H.Hashes.sized; bytes = g.met.H.Hashes.bytes } in
    λ v. others_fail (by v g.H.Hashes.of) sized c.args.q.now c.args._bytes.now c.is_query.ensures
    (λ i. omega (arith, c.type_inv._bytes i))

pub returns-clause-quiet : goal.returns-clause-quiet
returns-clause-quiet g c =
    let sized : IsSized g.H.Hashes.of = record { long = g.met.H.Hashes.sized; bytes = g.met.H.Hashes.bytes } in
    λ v. honest_quiet (by v g.H.Hashes.of) sized c.args.q.now c.is_query.ensures
