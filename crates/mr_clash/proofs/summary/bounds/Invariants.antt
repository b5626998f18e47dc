use Rattle.std.proofs.Common.{◌≡◌, take}
use Rattle.mr_geom.specs.Rectangle.{union_of}
use Rattle.mr_clash.specs.private.Steps.{rects_of}
use Rattle.mr_clash.proofs.summary.bounds.Given as goal

abbrev pub invariant-loop-child : goal.invariant-loop-child
invariant-loop-child l = l.all ≡ union_of (rects_of (take l.child-index l.children))
