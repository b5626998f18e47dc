use Rattle.std.proofs.Common.{ap, subst, ◌∙◌}
use Rattle.mr_record.specs.RecordText.{records_of_text}
use Rattle.mr_record.specs.Answer.{AnswersText}
use Rattle.mr_record.proofs.Texts.{answer_written, answer_refused, text_read}
use Rattle.mr_record.proofs.text.read_lines_of.Goals as goal

pub returns-clause-written : goal.returns-clause-written
returns-clause-written c = answer_written c.args.version c.args.text.now c.read_values.result c.read_values.ensures

pub returns-clause-read : goal.returns-clause-read
returns-clause-read c =
    λ rs is e. subst (AnswersText c.read_values.result)
    (ap (records_of_text c.args.version) e ∙ text_read c.args.version rs is) c.read_values.ensures

pub returns-clause-refused : goal.returns-clause-refused
returns-clause-refused c = answer_refused c.args.version c.args.text.now c.read_values.result c.read_values.ensures
