use Rattle.std.proofs.Common.{sym, subst}
use Rattle.mr_grow.specs.Views.{IsRooted}
use Rattle.mr_grow.proofs.Dropping.{one_in}
use Rattle.mr_grow.proofs.Sizes.{has_room}
use Rattle.mr_grow.proofs.Standing.{ins_root}
use Rattle.mr_grow.proofs.deletion.put_all.Goals as goal

pub inserted-requires : goal.inserted-requires
inserted-requires c = has_room c.loop-one.tree c.loop-one.invariant.rooted

pub loop-one-preserved : goal.loop-one-preserved
loop-one-preserved c = record {
  rooted = subst IsRooted (sym c.in_ok-tree.ensures) (ins_root c.one-item.result c.loop-one.tree
      c.loop-one.invariant.rooted);
  rest =
      one_in c.args.records.now c.loop-one.one-index c.one-item.result c.loop-one.tree c.in_ok-tree.tree _
      c.loop-one-test.true c.one-item.is
      c.in_ok-tree.ensures c.loop-one.invariant.rest;
}
