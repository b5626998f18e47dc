use Rattle.std.specs.Prelude.{codes}
use Rattle.mr_here.proofs.Beside.{on_file, differ}
use Rattle.mr_here.proofs.forming.edit_file.Goals as goal

pub returns-clause-stays : goal.returns-clause-stays
returns-clause-stays g c =
    on_file c.edit.result.0 (codes "new") (codes "map") c.args.shelf.files c.edit.result.1.files differ
    c.edit.ensures.others
