use Rattle.std.proofs.Common.{ℕ, subst}
use Rattle.mr_proof.specs.declared.want.Want.TheVariants as want
use Rattle.mr_proof.specs.declared.field.Field.{Field}
use Rattle.mr_proof.specs.Spelling.{Parsed}
use Rattle.mr_proof.specs.Grammar.{Grammar, reads, number_in, unopened}
use Rattle.mr_check.specs.private.Machine.{StepsPastField, after, behind_tally, ways_at}
use Rattle.mr_check.proofs.Stepping.{tally_waits}
use Rattle.mr_check.proofs.inner.masked.Goals as goal

pub returns-clause-steps : goal.returns-clause-steps
returns-clause-steps g c = λ given a none is.
    let q = g.A.AsQuestion.question c.args.q.now in
    let way = ways_at q c.args.m.now.head in
    let next = after way c.args.m.now.head c.args.level a.nodes in
    let r = c.args.rect.now in
    let rest : Field → Grammar Parsed = λ v. behind_tally next r c.args.mask (number_in v) in
    subst (λ (n : ℕ). StepsPastField g.H.Hashes.of g.H.Hashes.holds q c.unopened.new.m given
    (unopened way (record { rect = r; mask = n }) (reads want.Tally rest)) c.unopened.result) c.mask_seen.ensures
    (c.unopened.ensures.steps given want.Tally rest
    (tally_waits g.H.Hashes.of g.H.Hashes.holds q c.args.m.now c.args.level r c.args.mask given a none is))
