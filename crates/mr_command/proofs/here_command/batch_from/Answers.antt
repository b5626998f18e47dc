use Rattle.std.proofs.Common.{sym, ap, subst, ◌∙◌, inr}
use Rattle.mr_record.specs.Answer.{RefusesText}
use Rattle.mr_batch.specs.BatchText.{batch_of_text}
use Rattle.mr_command.proofs.here_command.batch_from.Goals as goal

pub returns-in-Ok-clause-reads : goal.returns-in-Ok-clause-reads
returns-in-Ok-clause-reads g c = (
  c.in_ok-text.text,
  c.in_ok-text.ensures,
  sym (ap (batch_of_text c.args.version) c.deref.ensures.value) ∙ c.in-Ok.ensures.exact,
)

pub returns-clause-reads : goal.returns-clause-reads
returns-clause-reads g c = inr (record {
  text = c.in_ok-text.text;
  read = c.in_ok-text.ensures;
  error = c.in-Err.error;
  refuses = subst (RefusesText c.in-Err.error) (ap (batch_of_text c.args.version) c.deref.ensures.value)
      c.in-Err.ensures.exact;
  says = c.bad_text.ensures;
})
