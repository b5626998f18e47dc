use Rattle.std.proofs.Common.{◌≡◌, length, arith}
use Rattle.std.proofs.lemmas.List.{nil_from_length}
use Rattle.mr_pack.specs.declared.node.Node.{Node}
use Rattle.mr_pack.proofs.Roots.{last_left, none_left}
use Rattle.mr_pack.proofs.load.only_tree.Goals as goal

pub returns-in-Some : goal.returns-in-Some
returns-in-Some c =
    last_left (λ (n : Node). n.tree) c.args.level.items c.pop.new.self.items c.in-Some.node c.in-Some.ensures.items
    c.requires

pub returns : goal.returns
returns c =
    let none : length c.args.level.items ≡ 0 = omega (arith, c.in-None.ensures.cases.0) in
    none_left (λ (n : Node). n.tree) c.args.level.items (nil_from_length c.args.level.items none)
