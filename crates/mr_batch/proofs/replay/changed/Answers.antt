use Rattle.std.proofs.Common.{IfOk, sym, subst}
use Rattle.std.specs.List.Sorted.{IsPermutation}
use Rattle.std.proofs.lemmas.Result.{IfOk-weaker}
use Rattle.mr_tree.specs.Tree.{records}
use Rattle.mr_batch.specs.Applied.{made}
use Rattle.mr_batch.specs.Changes.{IsLayered}
use Rattle.mr_batch.specs.declared.change.Change.{Change}
use Rattle.mr_batch.proofs.Permuted.{addition_leaves}
use Rattle.mr_batch.proofs.Replaying.{removal_mixes}
use Rattle.mr_batch.proofs.replay.changed.Goals as goal

pub grow-requires-clause-layer : goal.grow-requires-clause-layer
grow-requires-clause-layer c = subst IsLayered c.in-Add.is c.requires.layer

pub returns-in-Add-clause-records : goal.returns-in-Add-clause-records
returns-in-Add-clause-records c =
    subst (λ (d : Change). IfOk c.grow.result (λ t. IsPermutation (made (records c.args.tree) d) (records t)))
    (sym c.in-Add.is)
    (IfOk-weaker c.grow.result _ _ (λ t h. addition_leaves (records c.args.tree) (records t) c.in-Add.one h)
    c.grow.ensures.records)

pub returns-in-Remove-clause-records : goal.returns-in-Remove-clause-records
returns-in-Remove-clause-records c =
    subst (λ (d : Change). IfOk c.shrink.result (λ t. IsPermutation (made (records c.args.tree) d) (records t)))
    (sym c.in-Remove.is)
    (IfOk-weaker c.shrink.result _ _
    (λ t h. removal_mixes c.in-Remove.number (records c.args.tree) (records t) c.requires.well_formed.distinct h)
    c.shrink.ensures.records)
