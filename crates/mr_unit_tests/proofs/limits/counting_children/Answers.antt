use Rattle.std.proofs.Common.{◌≡◌, ◌+◌, replicate, arith}
use Rattle.std.proofs.lemmas.List.Elements.{All-replicate, All-set}
use Rattle.mr_record.specs.declared.version.Version.TheVariants.{Two}
use Rattle.mr_tree.specs.declared.child.Child as types
use Rattle.mr_edit.specs.Held.{IsTold}
use Rattle.mr_unit_tests.proofs.limits.counting_children.Goals as goal

pub returns : goal.returns
returns c =
    let first = c.counting_child-list.result in
    let other = c.counting_child.result in
    let IsBelow = (λ (k : types.Child). k.level + 1 ≡ c.args.level) in
    record {
      below = All-set IsBelow (replicate 24 first) c.args.at other
          (omega (arith, c.counting_child.ensures.level, c.requires.level))
          (All-replicate IsBelow 24 first (omega (arith, c.counting_child-list.ensures.level, c.requires.level)));
      told = All-set (IsTold Two) (replicate 24 first) c.args.at other c.counting_child.ensures.told
          (All-replicate (IsTold Two) 24 first c.counting_child-list.ensures.told);
    }
