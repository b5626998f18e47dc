use Rattle.std.proofs.Common.{◌∙◌}
use Rattle.mr_tree.specs.Digest.{by}
use Rattle.mr_pages.proofs.Judged.{entry_same}
use Rattle.mr_pages.proofs.judging.entry_on.Goals as goal

pub returns : goal.returns
returns g c = c.entry.ensures ∙ entry_same (by c.args.version g.H.Hashes.of) c.args.view.now
