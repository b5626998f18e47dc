use Rattle.std.proofs.Common.{ℕ, ◌+◌, ap}
use Rattle.mr_proof.specs.Cut.{Pruned}
use Rattle.mr_check.specs.private.Machine.{after, ways_at}
use Rattle.mr_check.proofs.Turning.{turn_part}
use Rattle.mr_check.proofs.reader.behind_part.Goals as goal

pub returns-clause-turns : goal.returns-clause-turns
returns-clause-turns g c = λ s at.
    let q = g.A.AsQuestion.question c.args.q.now in
    let head = c.args.r.now.machine.head in
    turn_part g.H.Hashes.of g.H.Hashes.holds q c.args.r.now c.behind.new.r s c.args.piece.now c.part_size-size.result
    (c.args.r.now.at + c.digest_place.result) c.args.level c.args.part.now c.behind.result c.requires.whole
    c.part_size-size.ensures.value (ap (λ (n : ℕ). c.args.r.now.at + n) c.digest_place.ensures.value)
    (λ given a p is. c.behind.ensures.behind q given
    (after (ways_at q head) head c.args.level a.nodes (Pruned c.args.part.now))
    (c.pruned-stepped.ensures.steps given a is.0 is.1)) at
