use Rattle.std.proofs.Common.{◌≡◌, Option, sym, subst}
use Rattle.mr_proof.specs.declared.question.Around.{Around}
use Rattle.mr_check.specs.private.Counting.{CountsRecords, other_radius}
use Rattle.mr_check.proofs.ending.is_other_radius.Goals as goal

pub returns : goal.returns
returns g c = λ rs counts.
    subst (λ (z : Option Around). other_radius z c.args.r.now.machine.head.radius rs ≡ c.other_radius.result)
    c.around.ensures (sym (c.other_radius.ensures rs
    (subst (λ (z : Option Around). CountsRecords z c.args.r.now.machine.head.radius rs
    c.args.r.now.machine.tally.radius) (sym c.around.ensures) counts)))
