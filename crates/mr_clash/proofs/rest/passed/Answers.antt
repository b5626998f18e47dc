use Rattle.std.proofs.Common.{rules}
use Rattle.mr_clash.proofs.Nodes.{front_is}
use Rattle.mr_clash.proofs.rest.passed.Goals as goal

pub returns : goal.returns
returns c = λ x rest is behind. front_is x rest c.args.whole.now _ c.saturating_sub-size.result is behind (search rules)
