use Rattle.std.proofs.lemmas.List.Elements.{All-replicate}
use Rattle.mr_record.specs.Record.{HasLayer}
use Rattle.mr_record.specs.declared.version.Version.TheVariants.{Two}
use Rattle.mr_unit_tests.proofs.limits.some_row.Goals as goal

pub returns : goal.returns
returns c = All-replicate (HasLayer Two) 8 c.blank.result c.blank.ensures.second
