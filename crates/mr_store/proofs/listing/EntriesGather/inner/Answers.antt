use Rattle.std.proofs.Common.{◌∙◌}
use Rattle.mr_store.specs.declared.listing.Entries.{Entries}
use Rattle.mr_store.proofs.Listings.{all_listed, listed_inner}
use Rattle.mr_store.proofs.listing.EntriesGather.inner.Goals as goal

pub returns-clause-gathers : goal.returns-clause-gathers
returns-clause-gathers c = λ x before root cs ts suits same all.
    all_listed (λ (s : Entries). s.all.items) before c.args.self.now c.args._children.items ts all
    ∙ listed_inner before.all.items ts
