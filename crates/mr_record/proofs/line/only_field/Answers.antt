use Rattle.std.proofs.Common.{ap, ◌∙◌, List, ℕ}
use Rattle.mr_record.specs.declared.version.Version.TheVariants.{One}
use Rattle.mr_record.specs.RecordText.{last_of}
use Rattle.mr_record.proofs.Fields.{more_than_one, last_one}
use Rattle.mr_record.proofs.line.only_field.Goals as goal

pub returns-in-Ok : goal.returns-in-Ok
returns-in-Ok c = ap (λ (f : List (List ℕ)). last_of f One) c.in-Ok.ensures
    ∙ more_than_one c.in-Ok.field-0.0.now c.in-Ok.field-0.1.now

pub returns-in-Err : goal.returns-in-Err
returns-in-Err c = ap (λ (f : List (List ℕ)). last_of f One) c.in-Err.ensures.1 ∙ last_one _
