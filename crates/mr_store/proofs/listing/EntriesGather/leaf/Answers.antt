use Rattle.std.proofs.Common.{◌∙◌}
use Rattle.mr_store.proofs.Listings.{listed_leaf}
use Rattle.mr_store.proofs.listing.EntriesGather.leaf.Goals as goal

pub returns-clause-gathers : goal.returns-clause-gathers
returns-clause-gathers c = λ x root suits.
    c.in_ok-list_records.ensures ∙ listed_leaf c.args.self.now.all.items c.args.records.now
