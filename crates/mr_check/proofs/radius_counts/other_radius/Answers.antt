use Rattle.std.proofs.Common.{ℕ, Option, Some, subst, arith}
use Rattle.mr_proof.specs.declared.question.Around.{Around}
use Rattle.mr_check.specs.private.Counting.{CountsRecords}
use Rattle.mr_check.proofs.CountingLaws.{enough_nearer, few_nearer}
use Rattle.mr_check.proofs.radius_counts.other_radius.Goals as goal

pub returns-then-k-tally : goal.returns-then-k-tally
returns-then-k-tally c = λ rs counts.
    let of = subst (λ (z : Option Around). CountsRecords z c.args.radius rs c.args.tally.now) c.in-Some.is counts in
    let both = subst (λ (z : Option ℕ). CountsRecords (Some c.in-Some.around) z rs c.args.tally.now)
    c.in-Some-radius.is of in
    rw (c.in-Some.is, c.in-Some-radius.is, c.number_of-k.ensures.value)
    (enough_nearer c.in-Some.around.center c.in-Some.around.k c.in-Some.around.layers c.in-Some-radius.field-0 rs
    c.args.tally.now
    (omega (arith, c.number_of-k.ensures.value, c.number_of-k.ensures.bound)) both
    (omega (arith, c.if-k-tally.true, c.number_of-k.ensures.value)))

pub returns-else-k-tally : goal.returns-else-k-tally
returns-else-k-tally c = λ rs counts.
    let of = subst (λ (z : Option Around). CountsRecords z c.args.radius rs c.args.tally.now) c.in-Some.is counts in
    let both = subst (λ (z : Option ℕ). CountsRecords (Some c.in-Some.around) z rs c.args.tally.now)
    c.in-Some-radius.is of in
    rw (c.in-Some.is, c.in-Some-radius.is, c.number_of-k.ensures.value)
    (few_nearer c.in-Some.around.center c.in-Some.around.k c.in-Some.around.layers c.in-Some-radius.field-0 rs
    c.args.tally.now
    (omega (arith, c.number_of-k.ensures.value, c.number_of-k.ensures.bound)) both
    (omega (arith, c.if-k-tally.false, c.number_of-k.ensures.value)))
