use Rattle.mr_pack.specs.Pack.{pack}
use Rattle.mr_command.proofs.Layered.{packed_layers}
use Rattle.mr_command.proofs.Leaves.{leaves_known}
use Rattle.mr_command.proofs.packing.packed_leaves.Goals as goal

pub returns-in-One-clause-known : goal.returns-in-One-clause-known
returns-in-One-clause-known g c =
    leaves_known c.args.version g.H.Hashes.of (pack c.args.records.items) c.pack_leaves_distinct.result c.in-One.is
    c.pack_leaves_distinct.ensures.exact c.pack_leaves_distinct.ensures.leaves

pub returns-in-One-clause-layers : goal.returns-in-One-clause-layers
returns-in-One-clause-layers g c =
    packed_layers c.args.version c.args.records.items c.pack_leaves_distinct.result c.requires.layers
    c.pack_leaves_distinct.ensures.same_records
