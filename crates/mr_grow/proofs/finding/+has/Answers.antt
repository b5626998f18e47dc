use Rattle.std.proofs.Common.{length, sym, ap, ◌∙◌}
use Rattle.std.specs.Prelude.{nat_lt}
use Rattle.std.specs.List.{flat_map}
use Rattle.mr_tree.specs.Tree.{records}
use Rattle.mr_tree.proofs.Equations.{records-Leaf}
use Rattle.mr_grow.specs.Found.{has, is_numbered, place_of}
use Rattle.mr_grow.proofs.Found.{place_any, not_in_first}
use Rattle.mr_grow.proofs.Kept.{records_below}
use Rattle.mr_grow.proofs.finding.+has.Goals as goal

pub loop-child-init : goal.loop-child-init
loop-child-init t c =
    ap (has c.args.number) (ap (flat_map records) c.as_slice-child-items.ensures ∙ sym
    (records_below c.in-Inner.children) ∙ sym (ap records c.in-Inner.is))

pub loop-child-preserved : goal.loop-child-preserved
loop-child-preserved t c =
    not_in_first c.args.number (has c.args.number (records c.args.tree.now)) c.as_slice-child-items.result.now
    c.loop-child.child-index c.child-item.result c.loop-child.invariant c.child-item.is c.loop-child-test.true
    (sym c.has.ensures ∙ c.if-has.false)

pub returns-in-Leaf : goal.returns-in-Leaf
returns-in-Leaf t c =
    (λ i. nat_lt ((c.position_of.ensures ∙ ap (place_of (is_numbered c.args.number)) c.as_slice-records.ensures) i)
    (length (c.as_slice-records.ensures i)))
    ∙ place_any (is_numbered c.args.number) c.in-Leaf.records
    ∙ ap (has c.args.number) (sym (ap records c.in-Leaf.is ∙ records-Leaf c.in-Leaf.records))
