use Rattle.mr_journal.proofs.Shelving.{made_there, turns_made, turns_same}
use Rattle.mr_journal.proofs.shelf_disk.create_file.Goals as goal

pub returns-in-Ok-clause-there : goal.returns-in-Ok-clause-there
returns-in-Ok-clause-there g c = made_there c.args.name.now _ _ c.in-Ok.ensures.made

pub returns-in-Ok-clause-turns : goal.returns-in-Ok-clause-turns
returns-in-Ok-clause-turns g c = turns_made c.args.name.now _ _ c.requires c.in-Ok.ensures.made

pub returns-in-Err-Fault-clause-turns : goal.returns-in-Err-Fault-clause-turns
returns-in-Err-Fault-clause-turns g c = turns_same c.args.name.now _ _ c.in-Err-Fault.ensures.refused

pub returns-in-Err-NoMemory-clause-turns : goal.returns-in-Err-NoMemory-clause-turns
returns-in-Err-NoMemory-clause-turns g c = turns_same c.args.name.now _ _ c.in-Err-NoMemory.ensures.refused
