use Rattle.std.proofs.Common.{arith}
use Rattle.mr_check.proofs.Gathering.{gather_on, gather_ends, gather_fails}
use Rattle.mr_check.proofs.collector.gather.Goals as goal

pub returns-in-More : goal.returns-in-More
returns-in-More g c =
    gather_ends g.H.Hashes.of g.H.Hashes.holds (g.A.AsQuestion.question c.args.q.now) c.args.verifier.now
    c.loop-taken.verifier c.feed.new.self c.args.piece.now
    c.split_at.result.1.now c.loop-taken.at c.args.kept.now.items c.loop-taken.kept.items c.split_at.ensures.back
    c.loop-taken.invariant c.in-More.ensures.stands
    (λ root s is. (c.in-More.ensures.fed root s is).1) (λ root s is. (c.in-More.ensures.fed root s is).0)

pub loop-taken-preserved : goal.loop-taken-preserved
loop-taken-preserved g c =
    rw c.in_ok-push-in-Found.ensures.items
    (gather_on g.H.Hashes.of g.H.Hashes.holds (g.A.AsQuestion.question c.args.q.now) c.args.verifier.now
    c.loop-taken.verifier c.feed.new.self c.args.piece.now
    c.split_at.result.1.now c.loop-taken.at c.in-Found.taken c.args.kept.now.items c.loop-taken.kept.items
    c.in-Found.item c.split_at.ensures.back
    (omega (arith, c.in-Found.ensures.taken, c.split_at.ensures.back_len, c.loop-taken.invariant.within))
    c.loop-taken.invariant c.in-Found.ensures.stands
    (λ root s is. (c.in-Found.ensures.fed root s is).1))

pub returns-in-Fault : goal.returns-in-Fault
returns-in-Fault g c =
    gather_fails g.H.Hashes.of g.H.Hashes.holds (g.A.AsQuestion.question c.args.q.now) c.args.verifier.now
    c.loop-taken.verifier c.args.piece.now
    c.split_at.result.1.now c.loop-taken.at c.args.kept.now.items c.loop-taken.kept.items c.in-Fault.fault
    c.split_at.ensures.back c.loop-taken.invariant c.in-Fault.ensures.fed
