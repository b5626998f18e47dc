use Rattle.mr_check.proofs.Stepping.{digest_on, sides_on, layer_on, length_on}
use Rattle.mr_check.proofs.step.step.Goals as goal

pub returns-in-Head-clause-steps : goal.returns-in-Head-clause-steps
returns-in-Head-clause-steps g c =
    rw c.in-Head.is (λ given a whole is. c.headed.ensures.steps (g.A.AsQuestion.question c.args.q.now) given is)

pub returns-in-Shown-clause-steps : goal.returns-in-Shown-clause-steps
returns-in-Shown-clause-steps g c =
    rw (c.in-Shown.is, ← c.rect_of.ensures) (λ given a whole is. c.shown.ensures.steps given a is.0 is.1)

pub returns-in-Mask-clause-steps : goal.returns-in-Mask-clause-steps
returns-in-Mask-clause-steps g c =
    rw (c.in-Mask.is, ← c.number_of.ensures) (λ given a whole is. c.masked.ensures.steps given a is.0 is.1)

pub returns-in-Tally-clause-steps : goal.returns-in-Tally-clause-steps
returns-in-Tally-clause-steps g c =
    rw (c.in-Tally.is, ← c.number_of-in-Tally.ensures, c.goes.ensures.value, c.goes.ensures.stage)
    (λ given a whole is. digest_on g.H.Hashes.of g.H.Hashes.holds (g.A.AsQuestion.question c.args.q.now) c.args.m.now
    c.in-Tally.level c.in-Tally.rect c.in-Tally.mask c.number_of-in-Tally.result given a is.0 is.1)

pub returns-in-Entries-clause-steps : goal.returns-in-Entries-clause-steps
returns-in-Entries-clause-steps g c =
    rw (c.in-Entries.is, ← c.number_of-in-Entries.ensures)
    (λ given a whole is. c.opened_inner.ensures.steps given a is.0 is.1)

pub returns-in-Records-clause-steps : goal.returns-in-Records-clause-steps
returns-in-Records-clause-steps g c =
    rw (c.in-Records.is, ← c.number_of-in-Records.ensures)
    (λ given a whole is. c.opened_leaf.ensures.steps given a is.0 is.1)

pub returns-in-Number-clause-steps : goal.returns-in-Number-clause-steps
returns-in-Number-clause-steps g c =
    rw (
      c.in-Number.is,
      ← c.number_of-in-Number.ensures,
      c.goes-in-Number.ensures.value,
      c.goes-in-Number.ensures.stage,
    )
    (λ given a whole is. sides_on g.H.Hashes.of g.H.Hashes.holds (g.A.AsQuestion.question c.args.q.now) c.args.m.now
    c.number_of-in-Number.result given a is.0 is.1)

pub returns-in-Sides-clause-steps : goal.returns-in-Sides-clause-steps
returns-in-Sides-clause-steps g c =
    rw (
      c.in-Sides.is,
      ← c.rect_of-in-Sides.ensures,
      c.goes-in-Sides.ensures.value,
      c.goes-in-Sides.ensures.stage,
      c.behind_sides-next.ensures,
    )
    (λ given a whole is. layer_on g.H.Hashes.of g.H.Hashes.holds (g.A.AsQuestion.question c.args.q.now) c.args.m.now
    c.args.m.now.head.version c.in-Sides.number c.rect_of-in-Sides.result given a is.0 is.1)

pub returns-in-Layer-clause-steps : goal.returns-in-Layer-clause-steps
returns-in-Layer-clause-steps g c =
    rw (
      c.in-Layer.is,
      ← c.number_of-in-Layer.ensures,
      c.goes-in-Layer.ensures.value,
      c.goes-in-Layer.ensures.stage,
    )
    (λ given a whole is. length_on g.H.Hashes.of g.H.Hashes.holds (g.A.AsQuestion.question c.args.q.now) c.args.m.now
    c.in-Layer.number c.in-Layer.rect c.number_of-in-Layer.result given a is.0 is.1)

pub returns-in-Length-clause-steps : goal.returns-in-Length-clause-steps
returns-in-Length-clause-steps g c =
    rw (c.in-Length.is, ← c.number_of-in-Length.ensures) (λ given a whole is. c.sized.ensures.steps given a is.0 is.1)
