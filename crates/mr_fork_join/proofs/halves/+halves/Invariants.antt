use Rattle.std.proofs.Common.{◌+◌, ◌*◌}
use Rattle.mr_fork_join.proofs.halves.+halves.Given as goal

abbrev pub decreases-halved : goal.decreases-halved
decreases-halved g l = 2 * l.depth + 1

abbrev pub decreases-left : goal.decreases-left
decreases-left g l = 2 * l.depth

abbrev pub decreases-right : goal.decreases-right
decreases-right g l = 2 * l.depth
