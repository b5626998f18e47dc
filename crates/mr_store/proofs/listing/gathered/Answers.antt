use Rattle.std.proofs.Common.{sym, subst}
use Rattle.mr_store.specs.private.Listing.{GathersDirectory}
use Rattle.mr_store.proofs.Gathering.{made_gathers}
use Rattle.mr_store.proofs.listing.gathered.Goals as goal

pub returns-clause-lists : goal.returns-clause-lists
returns-clause-lists c =
    subst (GathersDirectory c.args.all.items) (sym c.over.ensures)
    (made_gathers c.args.all.items c.in_ok-collected.field-0 c.in_ok-collected.ensures)
