use Rattle.std.proofs.Common.{[], sym, length, ◌∙◌}
use Rattle.std.proofs.lemmas.Bool.{eqb-true}
use Rattle.mr_record.specs.Lines.{lines_of}
use Rattle.mr_record.specs.LineTexts.{values_after}
use Rattle.mr_record.proofs.LineTexts.{all_read}
use Rattle.mr_record.proofs.reader.read_values.Goals as goal

pub returns : goal.returns
returns g c =
    all_read (g.R.LineReader.reader c.args.reader.now) c.loop-rest.values.items c.loop-rest.rest.now
    (values_after (g.R.LineReader.reader c.args.reader.now) [] (lines_of c.args.text.now))
    (eqb-true (length c.loop-rest.rest.now) 0 (sym c.is_empty.ensures ∙ c.loop-rest-test.false))
    c.loop-rest.invariant.so_far
