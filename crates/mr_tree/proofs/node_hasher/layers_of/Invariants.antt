use Rattle.std.proofs.Common.{◌≡◌, map, take}
use Rattle.mr_tree.specs.Tree.{mask_of, layer_bit}
use Rattle.mr_tree.proofs.node_hasher.layers_of.Given as goal

abbrev pub invariant-loop-one : goal.invariant-loop-one
invariant-loop-one l = l.all ≡ mask_of (map (layer_bit l.version) (take l.one-index l.records))
