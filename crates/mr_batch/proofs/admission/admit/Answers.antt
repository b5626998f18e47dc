use Rattle.std.proofs.Common.{◌≡◌, subst, ◌∙◌, Option, Some, None}
use Rattle.std.specs.Prelude.{MatchResult}
use Rattle.mr_batch.specs.declared.admission.BatchFault.{BatchFault}
use Rattle.mr_batch.proofs.Numbered.{as_many, some_records}
use Rattle.mr_batch.proofs.Walking.{same_fault_by, admitted}
use Rattle.mr_batch.proofs.admission.admit.Goals as goal

pub returns-clause-exact : goal.returns-clause-exact
returns-clause-exact c =
    λ rs have.
    subst (λ (o : Option BatchFault). MatchResult c.check_all.result (λ _. o ≡ None) (λ f. o ≡ Some f))
    (same_fault_by c.args.dir.now rs c.len-count.result have
    (c.len-count.ensures.exact ∙ as_many c.args.dir.now rs c.len-count.ensures.rising have) c.args.held
    c.args.batch.now)
    c.check_all.ensures

pub returns-clause-admissible : goal.returns-clause-admissible
returns-clause-admissible c =
    λ rs have. admitted c.check_all.result rs c.args.held c.args.batch.now (returns-clause-exact c rs have)

pub returns-clause-some_records : goal.returns-clause-some_records
returns-clause-some_records c = some_records c.args.dir.now c.len-count.ensures.rising
