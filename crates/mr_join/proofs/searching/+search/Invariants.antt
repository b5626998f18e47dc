use Rattle.std.proofs.Common.{length}
use Rattle.mr_join.proofs.searching.+search.Given as goal

abbrev pub decreases-search : goal.decreases-search
decreases-search l = length l.nodes.now
