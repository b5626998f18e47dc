use Rattle.std.proofs.Common.{string_bytes}
use Rattle.mr_outside.proofs.NamedFiles.{files_of-updates}
use Rattle.mr_outside.proofs.mem_shelf.set_file.Goals as goal

pub returns-clause-ok : goal.returns-clause-ok
returns-clause-ok c =
    rw (← c.in_ok-name.ensures.ok, ← c.in_ok-held.ensures)
    (files_of-updates c.args.files.now c.insert.new.self (string_bytes c.in_ok-name.name) c.in_ok-held.held
    c.in_ok-insert.ensures.updates)
