use Rattle.std.proofs.Common.{ℕ, sym, subst}
use Rattle.mr_record.specs.declared.version.Version.{Version}
use Rattle.mr_proof.specs.declared.want.Want.TheVariants as want
use Rattle.mr_proof.specs.Cut.{Pruned}
use Rattle.mr_proof.specs.Grammar.{bytes_in, unopened}
use Rattle.mr_check.specs.declared.stage.Stage.TheVariants as stage
use Rattle.mr_check.specs.declared.machine.StepResult.TheVariants as stepped
use Rattle.mr_check.specs.private.Machine.{StepsPastField, after, shown_next, behind_tally, ways_at}
use Rattle.mr_check.proofs.Stepping.{mask_on, digest_waits}
use Rattle.mr_check.proofs.inner.shown.Goals as goal

pub returns-in-One-clause-steps : goal.returns-in-One-clause-steps
returns-in-One-clause-steps g c = λ given a none is.
    let q = g.A.AsQuestion.question c.args.q.now in
    let way = ways_at q c.args.m.now.head in
    let next = after way c.args.m.now.head c.args.level a.nodes in
    let r = c.args.rect.now in
    let m = c.unopened.new.m in
    let steps = c.unopened.ensures.steps given want.Digest
    (λ d. next (Pruned (record { rect = r; mask = 0; count = 0; digest = bytes_in d })))
    (digest_waits g.H.Hashes.of g.H.Hashes.holds q c.args.m.now c.args.level r 0 0 given a none is) in
    subst (λ (u : Version). StepsPastField g.H.Hashes.of g.H.Hashes.holds q m given (shown_next u way next r)
    c.unopened.result) (sym c.in-One.is)
    (subst (λ (n : ℕ). StepsPastField g.H.Hashes.of g.H.Hashes.holds q m given
    (unopened way (record { rect = r; mask = n }) (behind_tally next r 0 0)) c.unopened.result) c.mask_seen.ensures
    steps)

pub returns-in-Two-clause-steps : goal.returns-in-Two-clause-steps
returns-in-Two-clause-steps g c = λ given a none is.
    let q = g.A.AsQuestion.question c.args.q.now in
    let way = ways_at q c.args.m.now.head in
    let next = after way c.args.m.now.head c.args.level a.nodes in
    let r = c.args.rect.now in
    subst (λ (u : Version). StepsPastField g.H.Hashes.of g.H.Hashes.holds q
    (record c.args.m.now { stage = stage.Mask c.args.level r }) given (shown_next u way next r) stepped.On)
    (sym c.in-Two.is)
    (mask_on g.H.Hashes.of g.H.Hashes.holds q c.args.m.now c.args.level r given a none is)
