use Rattle.std.proofs.Common.{◌-◌, inl, inr, sym, ◌∙◌, arith}
use Rattle.mr_journal.proofs.NewPages.{count_next, count_end}
use Rattle.mr_journal.proofs.changing.count_changed.Goals as goal
use Rattle.mr_journal.proofs.changing.count_changed.Goals.{then-differs, else-differs}

pub loop-number-preserved : goal.loop-number-preserved
loop-number-preserved c =
    let i = c.loop-number.invariant in
    count_next c.args.size c.args.old.now c.args.new.now c.loop-number.number c.args.pages c.loop-number.count
    c.if-differs.count _ c.loop-number-test.true i.1 i.2
    (elim c.if-differs.branch [
      | then-differs w ↦ inl (sym c.differs.ensures ∙ w.if-differs.true, w.count-is)
      | else-differs w ↦ inr (sym c.differs.ensures ∙ w.if-differs.false, w.count-is)
    ])

pub returns : goal.returns
returns c =
    let i = c.loop-number.invariant in
    omega (
      arith,
      i.1,
      count_end c.args.size c.args.old.now c.args.new.now c.loop-number.number
          (c.args.pages - c.loop-number.number) (omega (arith, c.loop-number-test.false)),
    )
