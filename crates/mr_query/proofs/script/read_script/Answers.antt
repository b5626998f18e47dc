use Rattle.std.proofs.Common.{ap, subst, ◌∙◌}
use Rattle.mr_record.specs.Answer.{AnswersText}
use Rattle.mr_query.specs.Script.{queries_of_text}
use Rattle.mr_query.proofs.Scripts.{answer_written, answer_refused, text_read}
use Rattle.mr_query.proofs.script.read_script.Goals as goal

pub returns-clause-written : goal.returns-clause-written
returns-clause-written c = answer_written c.args.text.now c.read_values.result c.read_values.ensures

pub returns-clause-read : goal.returns-clause-read
returns-clause-read c =
    λ qs is e. subst (AnswersText c.read_values.result) (ap queries_of_text e ∙ text_read qs is) c.read_values.ensures

pub returns-clause-refused : goal.returns-clause-refused
returns-clause-refused c = answer_refused c.args.text.now c.read_values.result c.read_values.ensures
