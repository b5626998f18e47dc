use Rattle.std.proofs.Common.{◌≡◌, drop}
use Rattle.mr_grow.specs.Shrink.{all_in}
use Rattle.mr_grow.specs.Views.{IsRooted}
use Rattle.mr_grow.proofs.deletion.put_all.Given as goal

-- what is left goes into the tree so far
abbrev pub invariant-loop-one : goal.invariant-loop-one
invariant-loop-one l = record {
  rooted : IsRooted l.tree;
  rest : all_in (drop l.one-index l.records) l.tree ≡ all_in l.records l.initial.tree;
}
