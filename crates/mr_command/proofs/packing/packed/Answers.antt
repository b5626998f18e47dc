use Rattle.mr_command.proofs.Layered.{packed_layers}
use Rattle.mr_command.proofs.packing.packed.Goals as goal

pub returns-in-One-clause-layers : goal.returns-in-One-clause-layers
returns-in-One-clause-layers g c =
    packed_layers c.args.version c.args.records.items c.pack_joined_distinct.result c.requires.layers
    c.pack_joined_distinct.ensures.same_records
