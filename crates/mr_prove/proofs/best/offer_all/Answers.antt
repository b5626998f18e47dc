use Rattle.std.proofs.Common.{◌≡◌, ◌+◌, min, subst}
use Rattle.std.specs.BinaryHeap.{heap_items}
use Rattle.std.proofs.lemmas.List.{take_all}
use Rattle.mr_query.specs.private.Radius.{below}
use Rattle.mr_prove.specs.private.Search.{aim, distances_on}
use Rattle.mr_prove.proofs.Least.{taken_more}
use Rattle.mr_prove.proofs.best.offer_all.Goals as goal

pub loop-record-preserved : goal.loop-record-preserved
loop-record-preserved c = record {
  best = c.in_ok-offer_one.ensures.best;
  least = λ x.
      taken_more (aim c.args.sought.now) x c.args.records.now c.loop-record.record-index c.record-item.result
      (heap_items c.args.best.now) (heap_items c.loop-record.best) (heap_items c.offer_one.new.best)
      c.record-item.is c.loop-record-test.true (c.loop-record.invariant.least x) (c.in_ok-offer_one.ensures.least x);
}

pub returns-clause-least : goal.returns-clause-least
returns-clause-least c = λ x.
    subst (λ rs. min c.args.sought.now.k (below x (heap_items c.loop-record.best))
    ≡ min c.args.sought.now.k (below x (heap_items c.args.best.now)
    + below x (distances_on (aim c.args.sought.now) rs)))
    (take_all c.loop-record.record-index c.args.records.now c.loop-record-test.false)
    (c.loop-record.invariant.least x)
