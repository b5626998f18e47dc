use Rattle.std.proofs.Common.{arith}
use Rattle.mr_check.specs.private.Machine.{frames_of}
use Rattle.mr_check.proofs.Stepping.{record_on, leaf_read}
use Rattle.mr_check.proofs.leaf.record.Goals as goal

pub returns-then-m-eq0-clause-steps : goal.returns-then-m-eq0-clause-steps
returns-then-m-eq0-clause-steps g c = λ given a leaf is.
    let read = leaf_read g.H.Hashes.of g.H.Hashes.holds (g.A.AsQuestion.question c.args.q.now) c.args.m.now.head
    (frames_of c.args.m.now)
    c.args.m.now.tally
    c.counted-handed_on.new.tally c.args.m.now.leaf c.add_record.new.self c.counted-handed_on.result c.args.m.now.latest
    given a
    c.add_record.ensures.gathers c.if-m-eq0.true c.counted-handed_on.ensures.handed_on
    (c.counted-handed_on.ensures.tally given is.tally) leaf is in
    rw c.if-m-eq0.true (c.last.ensures.steps given a c.counted-handed_on.ensures.handed_on read)

pub returns-clause-steps : goal.returns-clause-steps
returns-clause-steps g c = λ given a leaf is.
    rw c.found.ensures (record_on g.H.Hashes.of g.H.Hashes.holds (g.A.AsQuestion.question c.args.q.now) c.args.m.now
    c.add_record.new.self
    c.counted-handed_on.new.tally
    c.counted-handed_on.result given a c.add_record.ensures.gathers
    (omega arith) c.counted-handed_on.ensures.handed_on (c.counted-handed_on.ensures.tally given is.tally) leaf is)
