use Rattle.std.proofs.Common.{◌≡◌, ℕ, ◌+◌, ◌-◌, subst, arith}
use Rattle.std.specs.Prelude.{All}
use Rattle.std.proofs.lemmas.List.Elements.{All-from_recursion}
use Rattle.mr_tree.specs.declared.child.Child.{Child}
use Rattle.mr_pages.proofs.ManyReads.{levels_read}
use Rattle.mr_pages.proofs.page.node.show_inner.Goals as goal

pub set_inner-requires-clause-below : goal.set_inner-requires-clause-below
set_inner-requires-clause-below c =
    let back : c.args.level - 1 + 1 ≡ c.args.level = omega arith in
    subst (λ (n : ℕ). All (λ (d : Child). d.level + 1 ≡ n) c.read_children.new.places) back
    (All-from_recursion (λ (d : Child). d.level + 1 ≡ c.args.level - 1 + 1) c.read_children.new.places
    (levels_read c.args.version (c.args.level - 1) _ c.args.bytes.now c.read_children.new.places c.in-Some.rest.now
    c.in-Some.ensures))
