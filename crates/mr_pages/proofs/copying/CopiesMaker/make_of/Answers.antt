use Rattle.std.proofs.Common.{ap}
use Rattle.mr_pages.specs.Gathering.{tree_over}
use Rattle.mr_pages.specs.Walking.{owned}
use Rattle.mr_pages.proofs.Copies.{if_ok, leaf_copied, inner_copied}
use Rattle.mr_pages.proofs.copying.CopiesMaker.make_of.Goals as goal

pub returns-in-Leaf : goal.returns-in-Leaf
returns-in-Leaf c =
    if_ok c.put_moved.result _ _
    (λ m put. leaf_copied (λ s. s.items) c.args.child.now m c.args.node c.in-Leaf.records.items _
    c.args.self.now.nodes c.put_moved.new.list c.args.below.items (ap owned c.in-Leaf.is)
    (λ ts. ap (λ n. tree_over n ts) c.in-Leaf.is) c.of.ensures put.0 put.1)
    c.put_moved.ensures

pub returns : goal.returns
returns c =
    if_ok c.put_moved-in-Inner.result _ _
    (λ m put. inner_copied (λ s. s.items) c.args.child.now m c.args.node c.in-Inner.field-0.items _
    c.args.self.now.nodes c.put_moved-in-Inner.new.list c.args.below.items (ap owned c.in-Inner.is)
    (λ ts. ap (λ n. tree_over n ts) c.in-Inner.is) c.of-in-Inner.ensures put.0 put.1)
    c.put_moved-in-Inner.ensures
