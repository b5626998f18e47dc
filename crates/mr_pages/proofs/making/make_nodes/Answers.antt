use Rattle.std.proofs.Common.{◌∙◌, sym, subst, ap}
use Rattle.std.specs.Prelude.{MatchResult}
use Rattle.mr_tree.specs.Digest.{by}
use Rattle.mr_tree.specs.Leaves.{leaf_entries}
use Rattle.mr_tree.specs.WellFormed.{WellFormed, HasLayers}
use Rattle.mr_tree.specs.declared.tree.Tree.TheVariants as tree
use Rattle.mr_pages.specs.Leaves.{KnowsFirst}
use Rattle.mr_pages.specs.Making.{GivesUpFile, HasMadePages}
use Rattle.mr_pages.specs.PageBytes.{form_of}
use Rattle.mr_pages.proofs.making.make_nodes.Goals as goal

pub make_inner-requires-clause-well : goal.make_inner-requires-clause-well
make_inner-requires-clause-well g c =
    subst WellFormed (c.in-Inner.is ∙ ap tree.Inner (sym c.as_slice.ensures)) c.requires.well

pub make_inner-requires-clause-layers : goal.make_inner-requires-clause-layers
make_inner-requires-clause-layers g c =
    subst (HasLayers c.args.layout.version) (c.in-Inner.is ∙ ap tree.Inner (sym c.as_slice.ensures)) c.requires.layers

pub make_inner-requires-clause-known : goal.make_inner-requires-clause-known
make_inner-requires-clause-known g c =
    subst (λ t. KnowsFirst (leaf_entries (by c.args.layout.version g.H.Hashes.of) t) c.args.leaves.now)
    (c.in-Inner.is ∙ ap tree.Inner (sym c.as_slice.ensures)) c.requires.known

pub returns-in-Inner : goal.returns-in-Inner
returns-in-Inner g c =
    let name = c.args.name.now in
    let before = g.S.Shelf.state c.args.shelf.now in
    let after = g.S.Shelf.state c.make_inner.new.shelf in
    subst (λ t. MatchResult c.make_inner.result
    (λ r. HasMadePages (form_of c.args.layout) g.H.Hashes.of t name before after r.0 r.1)
    (GivesUpFile c.args.layout.size name before after))
    (sym (c.in-Inner.is ∙ ap tree.Inner (sym c.as_slice.ensures))) c.make_inner.ensures
