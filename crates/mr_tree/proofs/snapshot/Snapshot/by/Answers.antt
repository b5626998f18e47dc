use Rattle.std.proofs.Common.{◌+◌, length, arith, subst, sym, ap, ◌∙◌}
use Rattle.mr_tree.specs.Digest.{by}
use Rattle.mr_tree.specs.Nodes.{subtrees}
use Rattle.mr_tree.specs.WellFormed.{WellFormed, HasLayers}
use Rattle.mr_tree.proofs.Soundness.{sound_tree, nodes_fit}
use Rattle.mr_tree.proofs.Counting.{length-subtrees}
use Rattle.mr_tree.proofs.Reading.{snapshot_of}
use Rattle.mr_tree.proofs.snapshot.Snapshot.by.Goals as goal

pub rooted-requires-clause-sound : goal.rooted-requires-clause-sound
rooted-requires-clause-sound g c = sound_tree c.args.tree.now c.requires.well_formed

pub rooted-requires-clause-room : goal.rooted-requires-clause-room
rooted-requires-clause-room g c = omega (arith, nodes_fit c.args.tree.now c.requires.well_formed)

pub invariant_of-result : goal.invariant_of-result
invariant_of-result g c = record {
  whole = snapshot_of (by c.args.version g.H.Hashes.of) c.args.batch c.count-count.result c.args.tree.now
      c.requires.well_formed c.requires.layers c.count-count.ensures
      c.rooted.new.nodes.items c.in_ok-root.root c.in_ok-root.ensures;
  layered = subst (HasLayers c.args.version) (sym c.in_ok-root.ensures.tree) c.requires.layers;
  well_formed = ∣ subst WellFormed (sym c.in_ok-root.ensures.tree) c.requires.well_formed ∣₁;
}

pub returns-clause-span : goal.returns-clause-span
returns-clause-span g c =
    ap (λ t. length (subtrees t) + 1) c.in_ok-root.ensures.tree ∙ ap (λ n. n + 1) (length-subtrees c.args.tree.now)
