use Rattle.std.proofs.Common.{rules, ◌∙◌}
use Rattle.mr_bundle.proofs.Zipped.{one_more, all_asked}
use Rattle.mr_bundle.proofs.checking.pair.Goals as goal

pub loop-i-preserved : goal.loop-i-preserved
loop-i-preserved c = (
  one_more c.args.queries.now c.args.bundle.now c.args.parts.now c.requires.few c.loop-i.i c.index-queries-i.result
      (record { start = 0; end = 0 }) c.loop-i.all.items
      c.push.new.self.items _ c.loop-i-test.true c.loop-i.invariant.0 c.in_ok-push.ensures.items (search rules),
  (search rules),
)

pub returns-clause-each : goal.returns-clause-each
returns-clause-each c =
    c.loop-i.invariant.0
    ∙ all_asked c.args.queries.now c.args.bundle.now c.args.parts.now c.requires.few c.loop-i.i c.loop-i-test.false
