use Rattle.mr_plan.proofs.BundleLines.{more_lines}
use Rattle.mr_plan.proofs.judged.put_verdicts.Goals as goal

pub loop-i-preserved : goal.loop-i-preserved
loop-i-preserved c =
    more_lines c.args.list.now c.loop-i.i c.index-list-i.result c.args.out.now.bytes.items c.loop-i.out.bytes.items
    c.put_verdict.new.out.bytes.items c.loop-i-test.true c.index-list-i.is c.loop-i.invariant
    c.in_ok-put_verdict.ensures
