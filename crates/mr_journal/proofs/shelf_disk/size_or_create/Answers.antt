use Rattle.mr_journal.proofs.Shelving.{turns_same}
use Rattle.std.proofs.Common.{Err, is_some, ap, ◌∙◌}
use Rattle.mr_journal.proofs.shelf_disk.size_or_create.Goals as goal

pub returns-in-Ok-clause-turns : goal.returns-in-Ok-clause-turns
returns-in-Ok-clause-turns g c = turns_same c.args.name.now _ _ c.size.ensures.files

pub returns-in-Err-Fault-clause-turns : goal.returns-in-Err-Fault-clause-turns
returns-in-Err-Fault-clause-turns g c = turns_same c.args.name.now _ _ c.size.ensures.files

pub returns-in-Err-NoMemory-clause-turns : goal.returns-in-Err-NoMemory-clause-turns
returns-in-Err-NoMemory-clause-turns g c = turns_same c.args.name.now _ _ c.size.ensures.files

pub returns-in_ok-create_file-in-Err-Missing-clause-quiet : goal.returns-in_ok-create_file-in-Err-Missing-clause-quiet
returns-in_ok-create_file-in-Err-Missing-clause-quiet g c some =
    c.in_ok-create_file-in-Err-Missing.ensures.quiet (ap is_some c.size.ensures.files ∙ some)
    ∙ c.size.ensures.causes.absent (c.in-Err-Missing.is ∙ ap (λ x. Err x) c.in-Err-Missing.field-0-is) some
