use Rattle.std.proofs.Common.{◌≡◌, [], length}
use Rattle.mr_record.specs.Lines.{lines_of}
use Rattle.mr_record.specs.LineTexts.{values_after}
use Rattle.mr_record.proofs.reader.read_values.Given as goal

abbrev pub invariant-loop-rest : goal.invariant-loop-rest
invariant-loop-rest g l = record {
  kept : g.R.Memory.Memory.keeps l.memory l.values.items;
  so_far : values_after (g.R.LineReader.reader l.reader) l.values.items (lines_of l.rest)
      ≡ values_after (g.R.LineReader.reader l.reader) [] (lines_of l.text);
}

abbrev pub decreases-loop-rest : goal.decreases-loop-rest
decreases-loop-rest g l = length l.rest
