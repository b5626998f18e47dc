use Rattle.std.proofs.lemmas.List.Elements.{All-replicate}
use Rattle.mr_record.specs.Record.{HasLayer}
use Rattle.mr_record.specs.declared.version.Version.TheVariants.{One, Two}
use Rattle.mr_unit_tests.proofs.limits.full_row.Goals as goal

pub returns : goal.returns
returns c = record {
  first = All-replicate (HasLayer One) 16 c.blank.result c.blank.ensures.first;
  second = All-replicate (HasLayer Two) 16 c.blank.result c.blank.ensures.second;
}
