use Rattle.std.proofs.Common.{rules}
use Rattle.std.proofs.lemmas.Fn.{filter_same}
use Rattle.mr_query.specs.Layers.{is_on}
use Rattle.mr_query.proofs.selection.keep_layers.Goals as goal

pub returns : goal.returns
returns c =
    filter_same _ (is_on c.args.layers) _ (λ r b f k. search rules) _ _ c.retain.ensures.filtered
