use Rattle.std.proofs.Common.{subst, sym, ◌∙◌}
use Rattle.std.proofs.lemmas.Bool.{false≢true}
use Rattle.mr_check.specs.private.Differing.{EachOnce}
use Rattle.mr_check.proofs.Differing.{one_answer}
use Rattle.mr_check.proofs.arranging.arrange_window.Goals as goal

pub returns-then-branch-clause-same : goal.returns-then-branch-clause-same
returns-then-branch-clause-same c = λ layers.
    one_answer c.args.window.now layers c.args.records.now.items c.sort.new.records.items c.sort.ensures.permutation
    (subst EachOnce c.deref.ensures.value (c.in_ok-differ.ensures.each_once c.if-branch.true))

pub returns-else-branch-clause-in_order : goal.returns-else-branch-clause-in_order
returns-else-branch-clause-in_order c = λ each. absurd (false≢true (sym c.if-branch.false
    ∙ c.in_ok-differ.ensures.all (subst EachOnce (sym c.deref.ensures.value) each)))
