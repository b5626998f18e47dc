use Rattle.std.proofs.Common.{length}
use Rattle.mr_split.specs.Best.{better}
use Rattle.mr_split.specs.Seeds.{wastes_more}
use Rattle.mr_split.proofs.Pairing.{pairs_on, seeds_are}
use Rattle.mr_split.proofs.seeds.seeds.Goals as goal

pub loop-first-preserved : goal.loop-first-preserved
loop-first-preserved c = record {
  ordered = c.best_partner-best.ensures.ordered;
  inside = c.best_partner-best.ensures.inside;
  rest =
      pairs_on (better (wastes_more c.args.list.now)) c.loop-first.first (length c.args.list.now) c.loop-first.best
      c.best_partner-best.result _ c.loop-first-test.true
      c.best_partner-best.ensures.value c.loop-first.invariant.rest;
}

pub returns-clause-value : goal.returns-clause-value
returns-clause-value c = seeds_are c.args.list.now c.loop-first.first c.loop-first.best c.requires
    c.loop-first-test.false c.loop-first.invariant.rest
