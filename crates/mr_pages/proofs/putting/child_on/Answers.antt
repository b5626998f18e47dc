use Rattle.std.proofs.Common.{◌∙◌}
use Rattle.mr_tree.specs.Digest.{by}
use Rattle.mr_pages.proofs.Judged.{rect_some}
use Rattle.mr_pages.proofs.putting.child_on.Goals as goal

pub child_with-requires : goal.child_with-requires
child_with-requires g c =
    rect_some (by c.args.layout.version g.H.Hashes.of) c.args.view.now c.entry_on-entry.result c.requires.some
    c.entry_on-entry.ensures

pub returns : goal.returns
returns g c =
    c.child_with.ensures ∙ (λ i. record { page = c.args.page; entry = c.entry_on-entry.ensures i })
