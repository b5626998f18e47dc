use Rattle.mr_outside.proofs.reading.read_all.Goals as goal

pub read_up_to-requires-clause-size : goal.read_up_to-requires-clause-size
read_up_to-requires-clause-size g c = rw c.in_ok-size.ensures.files c.in_ok-size.ensures.length

pub returns-clause-bytes : goal.returns-clause-bytes
returns-clause-bytes g c = rw c.in_ok-size.ensures.files at c.read_up_to.ensures.bytes
