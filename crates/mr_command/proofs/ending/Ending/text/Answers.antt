use Rattle.mr_record.specs.declared.version.Version.TheVariants.{One}
use Rattle.mr_command.proofs.Endings.{line_alone}
use Rattle.mr_command.proofs.ending.Ending.text.Goals as goal

pub returns-clause-printed : goal.returns-clause-printed
returns-clause-printed c = line_alone One c.args.text.items c.new.result.items c.new.ensures.items
