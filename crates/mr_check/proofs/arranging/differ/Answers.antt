use Rattle.std.proofs.Common.{sym, ◌∙◌, ap}
use Rattle.mr_check.specs.private.Differing.{rise}
use Rattle.mr_check.proofs.Differing.{each_once, all_rise}
use Rattle.mr_check.proofs.arranging.differ.Goals as goal

pub returns-clause-each_once : goal.returns-clause-each_once
returns-clause-each_once c = λ up.
    each_once c.args.records.now c.in_ok-numbers.numbers.items c.in_ok-numbers.ensures.permutation
    (ap rise (sym c.deref.ensures.value) ∙ sym c.rise.ensures ∙ up)

pub returns-clause-all : goal.returns-clause-all
returns-clause-all c = λ each.
    c.rise.ensures ∙ ap rise c.deref.ensures.value
    ∙ all_rise c.args.records.now c.in_ok-numbers.numbers.items c.in_ok-numbers.ensures.permutation
    c.in_ok-numbers.ensures.sorted each
