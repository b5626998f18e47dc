use Rattle.mr_record.specs.declared.version.Version.TheVariants.{One, Two}
use Rattle.mr_unit_tests.proofs.Layers.{packed_layers}
use Rattle.mr_unit_tests.proofs.made.packed.Goals as goal

pub returns-in-Ok-clause-first : goal.returns-in-Ok-clause-first
returns-in-Ok-clause-first c =
    packed_layers One c.args.list.items c.in-Ok.tree c.requires.first c.in-Ok.ensures.same_records

pub returns-in-Ok-clause-second : goal.returns-in-Ok-clause-second
returns-in-Ok-clause-second c =
    packed_layers Two c.args.list.items c.in-Ok.tree c.requires.second c.in-Ok.ensures.same_records
