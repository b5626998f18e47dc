use Rattle.std.proofs.Common.{length, sym, ◌∙◌}
use Rattle.std.proofs.lemmas.Bool.{eqb-true}
use Rattle.mr_outside.specs.Files.{replaced}
use Rattle.mr_journal.proofs.Shelving.{puts_empty, puts_whole, puts_over, turns_changed}
use Rattle.mr_journal.proofs.shelf_disk.overwrite.Goals as goal

pub returns-then-is_empty-clause-puts : goal.returns-then-is_empty-clause-puts
returns-then-is_empty-clause-puts g c = puts_empty c.args.name.now c.args.at c.args.bytes.now _ _
    (eqb-true (length c.args.bytes.now) 0 (sym c.is_empty.ensures ∙ c.if-is_empty.true))

pub returns-in-Ok-clause-there : goal.returns-in-Ok-clause-there
returns-in-Ok-clause-there g c = (turns_changed c.args.name.now (replaced c.args.at c.args.bytes.now) _ _
    c.requires.there c.in-Ok.ensures.writes.whole).1

pub returns-in-Ok-clause-puts : goal.returns-in-Ok-clause-puts
returns-in-Ok-clause-puts g c = puts_whole c.args.name.now c.args.at c.args.bytes.now _ _ _
    (turns_changed c.args.name.now (replaced c.args.at c.args.bytes.now) _ _ c.requires.there
    c.in-Ok.ensures.writes.whole).0

pub returns-in-Err-Fault-clause-puts : goal.returns-in-Err-Fault-clause-puts
returns-in-Err-Fault-clause-puts g c = puts_over c.args.name.now c.args.at c.args.bytes.now _ _ _ c.requires.there
    c.write_at.ensures.writes.front

pub returns-in-Err-NoMemory-clause-puts : goal.returns-in-Err-NoMemory-clause-puts
returns-in-Err-NoMemory-clause-puts g c = puts_over c.args.name.now c.args.at c.args.bytes.now _ _ _ c.requires.there
    c.write_at.ensures.writes.front
