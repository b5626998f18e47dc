use Rattle.mr_command.proofs.Going.{reads_of}
use Rattle.mr_command.proofs.input.needed.Goals as goal

pub returns : goal.returns
returns g c =
    let e = c.read_all.ensures in
    reads_of c.args.name.now (g.S.Shelf.state c.args.shelf.now) (g.S.Shelf.state c.read_all.new.shelf) e.files e.reads
    e.pieces c.read_all.result c.as_needed.result e.bytes e.causes c.as_needed.ensures
