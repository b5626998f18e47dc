use Rattle.std.proofs.Common.{arith, ◌∙◌}
use Rattle.mr_outside.proofs.Taking.{TakesBytes-more}
use Rattle.mr_outside.proofs.sink.write_all.Goals as goal

pub loop-done-preserved : goal.loop-done-preserved
loop-done-preserved g c = record {
  within = omega (arith, c.in_ok-done.ensures.within);
  takes = TakesBytes-more (g.W.Sink.state c.args.out.now) (g.W.Sink.state c.loop-done.out)
      (g.W.Sink.state c.write.new.self)
      c.args.bytes.now c.loop-done.done _ c.loop-done.invariant.takes
      (rw (← c.split_at.ensures.back) c.in_ok-done.ensures.front);
  faults = c.in_ok-done.ensures.causes.quiet ∙ c.loop-done.invariant.faults;
}
