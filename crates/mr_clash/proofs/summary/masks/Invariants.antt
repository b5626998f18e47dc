use Rattle.std.proofs.Common.{◌≡◌, take}
use Rattle.mr_tree.specs.Tree.{mask_of}
use Rattle.mr_clash.specs.private.Steps.{masks_of}
use Rattle.mr_clash.proofs.summary.masks.Given as goal

abbrev pub invariant-loop-child : goal.invariant-loop-child
invariant-loop-child l = l.all ≡ mask_of (masks_of (take l.child-index l.children))
