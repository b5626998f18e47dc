use Rattle.std.proofs.Common.{◌∙◌}
use Rattle.mr_store.proofs.Listings.{listed_more}
use Rattle.mr_store.proofs.listing.list_records.Goals as goal

pub loop-one-preserved : goal.loop-one-preserved
loop-one-preserved c =
    c.in_ok-push.ensures.items
    ∙ listed_more c.args.all.now.items c.loop-one.all.items c.args.records.now c.loop-one.one-index
    c.one-item.result c.loop-one-test.true c.one-item.is c.loop-one.invariant
