use Rattle.std.proofs.Common.{ap, subst, ◌∙◌}
use Rattle.mr_batch.specs.BatchText.{batch_of_text}
use Rattle.mr_batch.specs.Answer.{AnswersBatch}
use Rattle.mr_batch.proofs.BatchTexts.{answer_written, answer_refused, batch_read}
use Rattle.mr_batch.proofs.text.read_batch_of.Goals as goal

pub returns-clause-written : goal.returns-clause-written
returns-clause-written c = answer_written c.args.version c.args.text.now c.read_all.result c.read_all.ensures

pub returns-clause-read : goal.returns-clause-read
returns-clause-read c =
    λ b is e. subst (AnswersBatch c.read_all.result)
    (ap (batch_of_text c.args.version) e ∙ batch_read c.args.version b is)
    c.read_all.ensures

pub returns-clause-refused : goal.returns-clause-refused
returns-clause-refused c = answer_refused c.args.version c.args.text.now c.read_all.result c.read_all.ensures
