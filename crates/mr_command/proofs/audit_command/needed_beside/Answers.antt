use Rattle.mr_store.specs.Paged.{shelved}
use Rattle.mr_command.proofs.Going.{reads_of}
use Rattle.mr_command.proofs.audit_command.needed_beside.Goals as goal

pub returns-clause-reads : goal.returns-clause-reads
returns-clause-reads g c =
    let e = c.read_file.ensures in
    reads_of c.args.name.now (shelved c.args.paged.now) (shelved c.read_file.new.self)
    e.same.files e.reads e.pieces c.read_file.result c.as_needed.result e.bytes e.causes c.as_needed.ensures
