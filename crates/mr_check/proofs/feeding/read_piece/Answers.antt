use Rattle.std.proofs.Common.{arith}
use Rattle.mr_check.proofs.Pieces.{begins, took, all_taken, found, broken}
use Rattle.mr_check.proofs.feeding.read_piece.Goals as goal

pub loop-count-init : goal.loop-count-init
loop-count-init g c =
    begins g.H.Hashes.of g.H.Hashes.holds (g.A.AsQuestion.question c.args.q.now) c.args.r.now c.args.piece.now
    c.requires.fits c.requires.none

pub loop-count-preserved : goal.loop-count-preserved
loop-count-preserved g c =
    took g.H.Hashes.of g.H.Hashes.holds (g.A.AsQuestion.question c.args.q.now) c.args.r.now c.loop-count.r
    c.advance.new.r c.args.piece.now
    c.split_at.result.1.now c.loop-count.at c.in-Took.count c.split_at.ensures.back c.loop-count.invariant
    c.in-Took.ensures.fits c.in-Took.ensures.fault
    (omega (arith, c.in-Took.ensures.takes, c.split_at.ensures.back_len, c.loop-count.invariant.within))
    c.in-Took.ensures.turns

pub returns-in-More-clause-fed : goal.returns-in-More-clause-fed
returns-in-More-clause-fed g c =
    all_taken g.H.Hashes.of g.H.Hashes.holds (g.A.AsQuestion.question c.args.q.now) c.args.r.now c.loop-count.r
    c.advance.new.r c.args.piece.now
    c.split_at.result.1.now c.loop-count.at
    c.split_at.ensures.back c.loop-count.invariant c.in-More.ensures.turns

pub returns-in-Found-clause-fed : goal.returns-in-Found-clause-fed
returns-in-Found-clause-fed g c =
    found g.H.Hashes.of g.H.Hashes.holds (g.A.AsQuestion.question c.args.q.now) c.args.r.now c.loop-count.r
    c.advance.new.r c.args.piece.now
    c.split_at.result.1.now c.loop-count.at
    c.in-Found.count c.split_at.ensures.back c.in-Found.ensures.takes.0 c.loop-count.invariant
    c.in-Found.ensures.turns

pub returns-in-Broken-clause-fed : goal.returns-in-Broken-clause-fed
returns-in-Broken-clause-fed g c =
    broken g.H.Hashes.of g.H.Hashes.holds (g.A.AsQuestion.question c.args.q.now) c.args.r.now c.loop-count.r
    c.advance.new.r c.args.piece.now
    c.split_at.result.1.now c.loop-count.at
    c.in-Broken.fault c.split_at.ensures.back c.loop-count.invariant c.in-Broken.ensures.turns
