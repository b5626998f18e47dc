use Rattle.std.proofs.Common.{◌≡◌, map, take}
use Rattle.mr_tree.specs.Tree.{mask_of}
use Rattle.mr_tree.specs.declared.child.Child.{Child}
use Rattle.mr_tree.proofs.view.masks_of.Given as goal

abbrev pub invariant-loop-child : goal.invariant-loop-child
invariant-loop-child l = l.all ≡ mask_of (map (λ (c : Child). c.mask) (take l.child-index l.children))
