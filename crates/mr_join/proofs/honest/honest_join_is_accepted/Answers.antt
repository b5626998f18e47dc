use Rattle.mr_join.proofs.Worth.{honest_accepted}
use Rattle.mr_join.proofs.honest.honest_join_is_accepted.Goals as goal

pub returns : goal.returns
returns g c =
    let first = c.honest_proof_is_accepted.ensures in
    let second = c.honest_proof_is_accepted-2.ensures in
    honest_accepted g.F.Hashes.of g.G.Hashes.of
    (record { accepts = first.accepted; honest = first.honest; quiet = first.quiet })
    (record { accepts = second.accepted; honest = second.honest; quiet = second.quiet })
