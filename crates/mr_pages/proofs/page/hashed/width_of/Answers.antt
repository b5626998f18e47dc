use Rattle.std.proofs.Common.{arith}
use Rattle.mr_pages.proofs.Fronts.{wider}
use Rattle.mr_pages.proofs.page.hashed.width_of.Goals as goal

pub loop-one-preserved : goal.loop-one-preserved
loop-one-preserved c = record {
  value = wider c.args.version c.args.records.now c.loop-one.one-index c.loop-one.all c.width-all.result
      c.one-item.result
      c.loop-one-test.true c.one-item.is c.loop-one.invariant.value c.width-all.ensures.value;
  bound = omega (arith, c.loop-one.invariant.bound, c.width-all.ensures.bound);
}
