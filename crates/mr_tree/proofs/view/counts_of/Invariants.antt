use Rattle.std.proofs.Common.{◌≡◌, ◌≤◌, ◌*◌, map, take}
use Rattle.std.specs.Prelude.{sum}
use Rattle.mr_tree.specs.Limits.{count_limit}
use Rattle.mr_tree.specs.declared.child.Child.{Child}
use Rattle.mr_tree.proofs.view.counts_of.Given as goal

-- the children so far were counted
abbrev pub invariant-loop-child : goal.invariant-loop-child
invariant-loop-child l = record {
  all : l.all ≡ sum (map (λ (c : Child). c.count) (take l.child-index l.children));
  few : l.all ≤ l.child-index * count_limit;
}
