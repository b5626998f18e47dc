use Rattle.std.proofs.Common.{sym, arith}
use Rattle.mr_query.proofs.Masks.{above_all}
use Rattle.mr_query.proofs.selection.is_on.Goals as goal

pub returns-then-one-gt-LAYER_LIMIT : goal.returns-then-one-gt-LAYER_LIMIT
returns-then-one-gt-LAYER_LIMIT c =
    sym (above_all c.args.one.now.layer c.args.layers (omega arith) c.ranges.layers.fits)
