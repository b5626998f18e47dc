use Rattle.std.proofs.Common.{sym, subst, arith}
use Rattle.std.specs.Prelude.{All}
use Rattle.std.proofs.lemmas.List.Elements.{All-nil}
use Rattle.mr_tree.specs.View.{children_in, HasCount, AreTold}
use Rattle.mr_tree.proofs.Told.{told_counts}
use Rattle.mr_pages.proofs.Put.{first_below, all_below}
use Rattle.mr_pages.proofs.putting.show_children.Goals as goal

pub overflow_add-links : goal.overflow_add-links
overflow_add-links c = omega (arith, first_below c.requires c.index-links-0.result c.index-links-0.is, c.requires.high)

pub set_inner-requires-clause-level : goal.set_inner-requires-clause-level
set_inner-requires-clause-level c =
    let first = first_below c.requires c.index-links-0.result c.index-links-0.is in
    (omega (arith, first, c.requires.low), omega (arith, first, c.requires.high))

pub set_inner-requires-clause-below : goal.set_inner-requires-clause-below
set_inner-requires-clause-below c = all_below c.requires c.index-links-0.result

pub returns-clause-told : goal.returns-clause-told
returns-clause-told c =
    subst (AreTold c.args._version) (sym c.set_inner.ensures)
    (record { layers = All-nil _; children = c.requires.told })

pub returns-clause-counts : goal.returns-clause-counts
returns-clause-counts c =
    subst (λ n. All HasCount (children_in n)) (sym c.set_inner.ensures)
    (told_counts c.args._version c.args.links.now c.requires.told)
