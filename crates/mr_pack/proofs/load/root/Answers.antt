use Rattle.std.proofs.Common.{◌<◌, length, ◌∙◌, arith}
use Rattle.mr_pack.specs.declared.node.Node.{Node}
use Rattle.mr_pack.proofs.Roots.{above_of_views, fewer_of_views}
use Rattle.mr_pack.proofs.load.root.Goals as goal

pub loop-alloc-smaller : goal.loop-alloc-smaller
loop-alloc-smaller c =
    fewer_of_views (λ (n : Node). n.tree) c.loop-alloc.level.items c.in_ok-level.level.items (omega arith)
    c.in_ok-level.ensures

pub loop-alloc-preserved : goal.loop-alloc-preserved
loop-alloc-preserved c =
    let some : 1 < length c.loop-alloc.level.items = omega arith in
    let fewer = fewer_of_views (λ (n : Node). n.tree) c.loop-alloc.level.items c.in_ok-level.level.items some
    c.in_ok-level.ensures in
    record {
      few = omega (arith, c.loop-alloc.invariant.few, fewer);
      root =
          above_of_views (λ (n : Node). n.tree) c.loop-alloc.level.items c.in_ok-level.level.items some
          c.in_ok-level.ensures ∙ c.loop-alloc.invariant.root;
    }
