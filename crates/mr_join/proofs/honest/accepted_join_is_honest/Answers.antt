use Rattle.std.proofs.Common.{arith}
use Rattle.mr_record.proofs.Encodings.{IsBytes}
use Rattle.mr_join.specs.private.Frames.{frame_value}
use Rattle.mr_join.proofs.Worth.{join_worth, unread_worth}
use Rattle.mr_join.proofs.honest.accepted_join_is_honest.Goals as goal

pub returns-in-Err : goal.returns-in-Err
returns-in-Err g c =
    unread_worth g.F.Hashes.of g.G.Hashes.of c.args.bytes.now c.in-Err.field-0 c.in-Err.ensures

pub returns-in-Ok : goal.returns-in-Ok
returns-in-Ok g c =
    let honest = c.honest_proof_is_accepted.ensures in
    let fits : IsBytes c.args.bytes.now = λ i. omega (arith, c.type_inv.bytes i) in
    join_worth g.F.Hashes.of g.G.Hashes.of c.args.bytes.now (frame_value c.in-Ok.frame)
    (record { accepts = honest.accepted; honest = honest.honest; quiet = honest.quiet }) fits c.in-Ok.ensures
    c.accepted_matches_honest.ensures c.accepted_matches_honest-in-Ok.ensures
