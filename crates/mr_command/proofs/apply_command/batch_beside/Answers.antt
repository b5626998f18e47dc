use Rattle.std.proofs.Common.{sym, ap, subst, ◌∙◌, inl, inr}
use Rattle.mr_record.specs.Answer.{RefusesText}
use Rattle.mr_batch.specs.BatchText.{batch_of_text}
use Rattle.mr_store.specs.Paged.{shelved, stands_for}
use Rattle.mr_command.specs.private.Inputs.{ReadsValue}
use Rattle.mr_command.proofs.Going.{halted_is}
use Rattle.mr_command.proofs.apply_command.batch_beside.Goals as goal

pub returns-in_err-text-clause-reads : goal.returns-in_err-text-clause-reads
returns-in_err-text-clause-reads g c =
    let paged = c.args.paged.now in
    subst (ReadsValue (batch_of_text (stands_for paged).version) c.args.name.now (shelved paged)
    (shelved c.needed_beside.new.paged))
    (sym (halted_is c.from_residual.result c.in_err-text.field-0.0 c.from_residual.ensures.1))
    (inl c.in_err-text.ensures.reads)

pub returns-in-Ok-clause-reads : goal.returns-in-Ok-clause-reads
returns-in-Ok-clause-reads g c = (
  c.in_ok-text.text,
  c.in_ok-text.ensures.reads,
  ap (λ v. batch_of_text v c.in_ok-text.text.items) (sym c.version-version.ensures)
      ∙ sym (ap (batch_of_text c.version-version.result) c.deref.ensures.value)
      ∙ c.in-Ok.ensures.exact,
)

pub returns-clause-reads : goal.returns-clause-reads
returns-clause-reads g c = inr (record {
  text = c.in_ok-text.text;
  read = c.in_ok-text.ensures.reads;
  error = c.in-Err.error;
  refuses = subst (RefusesText c.in-Err.error)
      (ap (batch_of_text c.version-version.result) c.deref.ensures.value
      ∙ ap (λ v. batch_of_text v c.in_ok-text.text.items) c.version-version.ensures)
      c.in-Err.ensures.exact;
  says = c.bad_text.ensures;
})
