use Rattle.std.proofs.Common.{◌-◌, arith}
use Rattle.mr_journal.proofs.NewPages.{spelled_next, spelled_whole}
use Rattle.mr_journal.proofs.changing.spell_pages.Goals as goal

pub loop-number-preserved : goal.loop-number-preserved
loop-number-preserved c =
    spelled_next c.args.size c.args.old.now c.args.new.now c.loop-number.number c.args.pages c.loop-number.body.items
    c.spell_if_changed.new.body.items _ c.loop-number-test.true
    c.loop-number.invariant.1 c.in_ok-spell_if_changed.ensures

pub returns : goal.returns
returns c =
    spelled_whole c.args.size c.args.old.now c.args.new.now c.loop-number.number (c.args.pages - c.loop-number.number)
    c.loop-number.body.items _ (omega (arith, c.loop-number-test.false)) c.loop-number.invariant.1
