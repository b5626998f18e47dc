use Rattle.std.proofs.Common.{arith}
use Rattle.std.proofs.Math.Bridge.{le_prop}
use Rattle.std.proofs.Math.Logic.{∥∥₁_elim}
use Rattle.mr_tree.specs.Snapshot.{tree_of}
use Rattle.mr_bundle.proofs.proving.is_short.Goals as goal

pub returns : goal.returns
returns g c =
    let nodes = c.args._nodes.now in
    ∥∥₁_elim nodes.well_formed le_prop (λ well.
    let own = c.honest_is_accepted.ensures.short nodes.top.version (tree_of nodes.nodes.items nodes.top)
    nodes.top.batch well in
    omega (arith, own))
