-- The records that a command prints. This serves the type of its endings.
use Rattle.std.specs.Prelude.{List}
use Rattle.mr_record.specs.declared.record.Record.{Record}
use Rattle.mr_tree.specs.Tree.{records}
use Rattle.mr_command.specs.declared.ending.RecordsOut.{RecordsOut}
use Rattle.mr_command.specs.declared.ending.RecordsOut.TheVariants as shown

-- the records that are printed, in the order in which they are kept
abbrev pub kept_in : RecordsOut → List Record
kept_in (shown.Records list) = list.items
kept_in (shown.OfTree alloc tree) = records tree
