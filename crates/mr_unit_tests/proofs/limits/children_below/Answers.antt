use Rattle.std.proofs.Common.{◌≡◌, ◌+◌, arith}
use Rattle.std.proofs.lemmas.List.Elements.{All-replicate}
use Rattle.mr_record.specs.declared.version.Version.TheVariants.{One}
use Rattle.mr_tree.specs.declared.child.Child as types
use Rattle.mr_edit.specs.Held.{IsTold}
use Rattle.mr_unit_tests.proofs.limits.children_below.Goals as goal

pub returns : goal.returns
returns c = record {
  below = All-replicate (λ (k : types.Child). k.level + 1 ≡ c.args.level) 64 c.child_of.result
      (omega (arith, c.child_of.ensures.level, c.requires));
  told = All-replicate (IsTold One) 64 c.child_of.result c.child_of.ensures.told;
}
