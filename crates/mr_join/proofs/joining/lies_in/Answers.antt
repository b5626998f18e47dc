use Rattle.mr_count.specs.private.InsideLaws.{lies_is}
use Rattle.mr_join.proofs.joining.lies_in.Goals as goal

pub returns : goal.returns
returns c =
    lies_is c.args.one.now c.args.other.now c.inside.result c.corners-corners.ensures.ordered c.inside.ensures
