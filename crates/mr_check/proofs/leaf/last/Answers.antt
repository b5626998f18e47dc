use Rattle.std.proofs.Common.{sym, ◌∙◌, subst}
use Rattle.mr_check.specs.declared.frame.Frame.{Frame}
use Rattle.mr_check.specs.private.Machine.{LeafRead, frames_of, plus}
use Rattle.mr_check.proofs.Stepping.{leaf_missed, leaf_closed}
use Rattle.mr_check.proofs.leaf.last.Goals as goal

pub returns-then-not-is_to_be_opened-clause-steps : goal.returns-then-not-is_to_be_opened-clause-steps
returns-then-not-is_to_be_opened-clause-steps g c = λ given a is_met is.
    leaf_missed g.H.Hashes.of g.H.Hashes.holds (g.A.AsQuestion.question c.args.q.now) c.args.m.now.head
    (frames_of c.args.m.now)
    c.args.m.now.tally c.taken-leaf.result c.close-node.result (plus c.args.handed_on given c.args.m.now.latest) a
    c.args.m.now.latest
    (record {
      level = c.close-node.ensures.level;
      rect = c.close-node.ensures.rect;
      mask = c.close-node.ensures.mask;
      count = c.close-node.ensures.count;
      digest = c.close-node.ensures.digest;
    })
    (sym c.is_to_be_opened.ensures ∙ c.if-not-is_to_be_opened.true)
    (subst (λ (f : Frame _). LeafRead g.H.Hashes.of g.H.Hashes.holds (g.A.AsQuestion.question c.args.q.now)
    c.args.m.now.head
    (frames_of c.args.m.now)
    c.args.m.now.tally f (plus c.args.handed_on given c.args.m.now.latest) a c.args.m.now.latest)
    (sym c.taken-leaf.ensures.taken)
    is)

pub returns-clause-steps : goal.returns-clause-steps
returns-clause-steps g c = λ given a is_met is.
    rw c.found.ensures (leaf_closed g.H.Hashes.of g.H.Hashes.holds (g.A.AsQuestion.question c.args.q.now)
    c.args.m.now.head
    (frames_of c.args.m.now)
    c.args.m.now.tally c.close.new.m c.taken-leaf.result c.close-node.result c.args.handed_on given a
    c.args.m.now.latest
    c.close.result c.close.ensures.kept
    (record {
      level = c.close-node.ensures.level;
      rect = c.close-node.ensures.rect;
      mask = c.close-node.ensures.mask;
      count = c.close-node.ensures.count;
      digest = c.close-node.ensures.digest;
    })
    (sym c.is_to_be_opened.ensures ∙ c.if-not-is_to_be_opened.false) is_met
    (c.close.ensures.closes (plus c.args.handed_on given c.args.m.now.latest))
    (subst (λ (f : Frame _). LeafRead g.H.Hashes.of g.H.Hashes.holds (g.A.AsQuestion.question c.args.q.now)
    c.args.m.now.head
    (frames_of c.args.m.now)
    c.args.m.now.tally f (plus c.args.handed_on given c.args.m.now.latest) a c.args.m.now.latest)
    (sym c.taken-leaf.ensures.taken)
    is))
