use Rattle.std.proofs.Common.{◌≡◌, ◌+◌, drop}
use Rattle.mr_tree.specs.Tree.{records}
use Rattle.mr_tree.specs.declared.tree.Tree.{Tree}
use Rattle.mr_grow.specs.Found.{has, place_of}
use Rattle.mr_grow.proofs.deletion.child_with.Given as goal

abbrev pub invariant-loop-child : goal.invariant-loop-child
invariant-loop-child l = record {
  count : l.at ≡ l.child-index;
  rest : l.at + place_of (λ (t : Tree). has l.number (records t)) (drop l.child-index l.children) ≡ place_of
      (λ (t : Tree). has l.number (records t)) l.children;
}
