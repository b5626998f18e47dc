use Rattle.mr_tree.proofs.Layers.{layers_in}
use Rattle.mr_tree.proofs.snapshot.Snapshot.over.Goals as goal

pub invariant_of-result : goal.invariant_of-result
invariant_of-result g c = record {
  whole = c.requires.whole;
  well_formed = ∣ c.requires.well_formed ∣₁;
  layered = layers_in g.H.Hashes.of c.args.nodes.items c.args.top c.requires.whole;
}
