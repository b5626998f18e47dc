use Rattle.std.proofs.Common.{Option, subst}
use Rattle.mr_proof.specs.declared.rule.Fault.{Fault}
use Rattle.mr_check.specs.private.Reads.{StandsBy}
use Rattle.mr_check.proofs.Judging.{fed_feeds, fed_stands, fault_stands, fault_final}
use Rattle.mr_check.proofs.verifier.feed.Goals as goal

pub returns-in-Some-clause-stands : goal.returns-in-Some-clause-stands
returns-in-Some-clause-stands g c = λ s b.
    fault_stands g.H.Hashes.of g.H.Hashes.holds (g.A.AsQuestion.question c.args.q.now) c.args.r.now s c.args.piece.now
    c.args.r.now.fault
    c.in-Some.fault c.in-Some.is b

pub returns-in-Some-clause-fed : goal.returns-in-Some-clause-fed
returns-in-Some-clause-fed g c = λ root s b.
    fault_final g.H.Hashes.of g.H.Hashes.holds root (g.A.AsQuestion.question c.args.q.now) c.args.r.now s
    c.args.piece.now c.args.r.now.fault
    c.in-Some.fault
    c.in-Some.is b

pub returns-in-None-clause-stands : goal.returns-in-None-clause-stands
returns-in-None-clause-stands g c = λ s b.
    fed_stands g.H.Hashes.of g.H.Hashes.holds (g.A.AsQuestion.question c.args.q.now) c.read_piece.new.r s
    c.args.piece.now
    c.read_piece.new.r.fault c.read_piece.result
    c.read_piece.ensures.fault (c.read_piece.ensures.fed s
    (subst (λ (z : Option Fault). StandsBy g.H.Hashes.of g.H.Hashes.holds (g.A.AsQuestion.question c.args.q.now)
    c.args.r.now z s) c.in-None.is
    b))

pub returns-in-None-clause-fed : goal.returns-in-None-clause-fed
returns-in-None-clause-fed g c = λ root s b.
    fed_feeds g.H.Hashes.of g.H.Hashes.holds root (g.A.AsQuestion.question c.args.q.now) c.read_piece.new.r s
    c.args.piece.now c.read_piece.result
    c.read_piece.ensures.fits.held (c.read_piece.ensures.fed s
    (subst (λ (z : Option Fault). StandsBy g.H.Hashes.of g.H.Hashes.holds (g.A.AsQuestion.question c.args.q.now)
    c.args.r.now z s) c.in-None.is
    b))
