use Rattle.std.proofs.Common.{◌∙◌}
use Rattle.mr_clash.specs.private.Steps.{entry_with}
use Rattle.mr_clash.proofs.entry.inner_entry.Goals as goal

pub returns : goal.returns
returns g c = λ few.
    c.entry_with.ensures
    ∙ (λ i. entry_with c.args.level (c.inner_summary.ensures few i) (c.inner_digest-digest.ensures i))
