use Rattle.std.proofs.Common.{length, ◌-◌, sym, ap, ◌∙◌, arith, subst}
use Rattle.mr_bundle.specs.Bundle.{Cutting}
use Rattle.mr_bundle.proofs.Cutting.{IsRead, more_read, stopped, ended, some_left, none_left}
use Rattle.mr_bundle.proofs.reading.cut_parts.Goals as goal
use Rattle.mr_bundle.proofs.reading.cut_parts.Goals.{then-at-bytes, else-at-bytes}

pub returns-in_default-clause-list : goal.returns-in_default-clause-list
returns-in_default-clause-list c =
    c.of.ensures ∙ sym (ap (λ (x : Cutting). x.list)
    (stopped c.args.bytes.now c.args.queries c.loop-left.list.items c.loop-left.left c.loop-left.at
    c.loop-left.invariant c.loop-left-test.true (sym c.in_default.ensures.exact)))

pub returns-in_default-clause-broken : goal.returns-in_default-clause-broken
returns-in_default-clause-broken c =
    sym (ap (λ (x : Cutting). x.broken)
    (stopped c.args.bytes.now c.args.queries c.loop-left.list.items c.loop-left.left c.loop-left.at
    c.loop-left.invariant c.loop-left-test.true (sym c.in_default.ensures.exact)))

pub loop-left-preserved : goal.loop-left-preserved
loop-left-preserved c =
    subst (λ list. IsRead c.args.bytes.now c.args.queries list (c.loop-left.left - 1) c.in-Some.part.end)
    (sym c.in_ok-push.ensures.items)
    (more_read c.args.bytes.now c.args.queries c.loop-left.list.items c.loop-left.left c.loop-left.at
    c.loop-left.invariant c.loop-left-test.true c.in-Some.part (sym c.in-Some.ensures.exact) c.in-Some.ensures.lies)

pub returns-clause-list : goal.returns-clause-list
returns-clause-list c =
    c.of-2.ensures ∙ sym (ap (λ (x : Cutting). x.list)
    (ended c.args.bytes.now c.args.queries c.loop-left.list.items c.loop-left.left c.loop-left.at c.loop-left.invariant
    (omega (arith, c.loop-left-test.false))))

pub returns-clause-broken : goal.returns-clause-broken
returns-clause-broken c =
    let all = ap (λ (x : Cutting). x.broken)
    (ended c.args.bytes.now c.args.queries c.loop-left.list.items c.loop-left.left c.loop-left.at c.loop-left.invariant
    (omega (arith, c.loop-left-test.false))) in
    elim c.if-at-bytes.branch [
      | then-at-bytes w ↦
          w.broken-is ∙ sym (some_left c.loop-left.at (length c.args.bytes.now) w.if-at-bytes.true) ∙ sym all
      | else-at-bytes w ↦
          w.broken-is ∙ sym (none_left c.loop-left.at (length c.args.bytes.now) w.if-at-bytes.false) ∙ sym all
    ]
