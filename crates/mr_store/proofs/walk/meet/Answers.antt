use Rattle.std.proofs.Common.{[], refl, sym, ◌∙◌}
use Rattle.mr_store.proofs.Walks.{adds_of}
use Rattle.mr_store.proofs.walk.meet.Goals as goal

pub returns-in-Ok-true-clause-twice : goal.returns-in-Ok-true-clause-twice
returns-in-Ok-true-clause-twice c =
    (refl, λ pages ns saw. sym (c.in-Ok-true.ensures.told pages [] ns saw).0 ∙ c.in-Ok-true.field-0-test)

pub returns-in-Ok-false-clause-adds : goal.returns-in-Ok-false-clause-adds
returns-in-Ok-false-clause-adds c =
    adds_of c.args.seen.now c.meet.new.self c.args.records.now c.args.records.now c.in-Ok-false.field-0 refl
    c.in-Ok-false.field-0-test c.in-Ok-false.ensures.told
