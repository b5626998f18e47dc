use Rattle.std.proofs.Common.{◌≡◌, drop}
use Rattle.std.specs.List.{list_any}
use Rattle.mr_here.specs.Layers.{has_layer}
use Rattle.mr_here.proofs.layers.any_layer.Given as goal

abbrev pub invariant-loop-i : goal.invariant-loop-i
invariant-loop-i l = list_any has_layer (drop l.i l.batch.list) ≡ list_any has_layer l.batch.list
