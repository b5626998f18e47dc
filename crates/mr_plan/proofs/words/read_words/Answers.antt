use Rattle.std.proofs.Common.{None, map}
use Rattle.std.specs.String.{string_bytes}
use Rattle.mr_plan.proofs.Spelling.{one_command, spelled_whole, spelled_not, spelled_over}
use Rattle.mr_plan.proofs.words.read_words.Goals as goal

pub returns-then-not-is_complete-clause-written : goal.returns-then-not-is_complete-clause-written
returns-then-not-is_complete-clause-written c = spelled_not (map string_bytes c.args.words.now) _ _ _ _
    c.new-reader.ensures c.command_of-command.ensures c.is_complete.ensures c.if-not-is_complete.true

pub returns-then-not-is_complete-clause-read : goal.returns-then-not-is_complete-clause-read
returns-then-not-is_complete-clause-read c = λ command spelled. one_command _ command None spelled
    (returns-then-not-is_complete-clause-written c)

pub returns-then-spares_journal-clause-written : goal.returns-then-spares_journal-clause-written
returns-then-spares_journal-clause-written c = spelled_whole (map string_bytes c.args.words.now) _ _ _ _ _
    c.new-reader.ensures c.command_of-command.ensures c.is_complete.ensures c.if-not-is_complete.false
    c.spares_journal.ensures c.if-spares_journal.true

pub returns-then-spares_journal-clause-read : goal.returns-then-spares_journal-clause-read
returns-then-spares_journal-clause-read c = λ command spelled. one_command _ command c.command_of-command.result
    spelled (returns-then-spares_journal-clause-written c)

pub returns-else-spares_journal-clause-written : goal.returns-else-spares_journal-clause-written
returns-else-spares_journal-clause-written c = spelled_over (map string_bytes c.args.words.now) _ _ _ _
    c.new-reader.ensures c.command_of-command.ensures c.spares_journal.ensures c.if-spares_journal.false

pub returns-else-spares_journal-clause-read : goal.returns-else-spares_journal-clause-read
returns-else-spares_journal-clause-read c = λ command spelled. one_command _ command None spelled
    (returns-else-spares_journal-clause-written c)
