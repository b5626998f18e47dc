use Rattle.std.proofs.Common.{ap, sym, ◌∙◌}
use Rattle.mr_proof.specs.Tight.{is_open}
use Rattle.mr_proof.specs.Grammar.{reads}
use Rattle.mr_check.specs.private.Machine.{ways_at}
use Rattle.mr_check.proofs.Stepping.{unopened_met, unopened_missed}
use Rattle.mr_check.proofs.inner.unopened.Goals as goal

pub returns-then-is_open-clause-steps : goal.returns-then-is_open-clause-steps
returns-then-is_open-clause-steps g c = λ given w next waits.
    unopened_met (ways_at (g.A.AsQuestion.question c.args.q.now) c.args.m.now.head) c.args.part.now (reads w next)
    (sym (ap is_open c.way.ensures) ∙ sym c.is_open.ensures ∙ c.if-is_open.true)

pub returns-clause-steps : goal.returns-clause-steps
returns-clause-steps g c = λ given w next waits.
    unopened_missed g.H.Hashes.of g.H.Hashes.holds (g.A.AsQuestion.question c.args.q.now)
    (record c.args.m.now { stage = c.args.stage }) (ways_at (g.A.AsQuestion.question c.args.q.now) c.args.m.now.head)
    c.args.part.now given w next (sym (ap is_open c.way.ensures) ∙ sym c.is_open.ensures ∙ c.if-is_open.false) waits
