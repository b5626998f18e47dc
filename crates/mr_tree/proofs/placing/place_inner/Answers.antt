use Rattle.std.proofs.Common.{◌∷◌, ◌++◌, [], map, subst, sym, ap, ◌∙◌}
use Rattle.std.specs.Prelude.{IsSome}
use Rattle.mr_tree.specs.Digest.{by, entry_step}
use Rattle.mr_tree.specs.View.{child_entry}
use Rattle.mr_tree.specs.Snapshot.{trees, tree_over, IsPlaced}
use Rattle.mr_tree.specs.declared.entry.Entry.{Entry}
use Rattle.mr_tree.specs.declared.stored.Stored.TheVariants.{Children}
use Rattle.mr_tree.specs.declared.tree.Tree.TheOpen.{Inner}
use Rattle.mr_tree.proofs.Placements.{inner_placed, inner_there}
use Rattle.mr_tree.proofs.placing.place_inner.Goals as goal

pub child_with-requires : goal.child_with-requires
child_with-requires g c =
    let s = by c.args.version g.H.Hashes.of in
    subst (λ (e : Entry). IsSome e.rect) (sym (c.inner_entry-entry.ensures
    ∙ ap (λ cs. entry_step s (Inner (map child_entry cs))) c.as_slice-2.ensures.value))
    (inner_there s c.args.children.items c.requires.shape.some)

pub returns : goal.returns
returns g c =
    let s = by c.args.version g.H.Hashes.of in
    let ns = c.args.nodes.now.items in
    let cs = c.args.children.items in
    subst (λ ms. IsPlaced s ns ms c.child_with.result (tree_over (trees ns) (Children cs))
    (tree_over (trees ns) (Children cs) ∷ []))
    (sym (c.in_ok-id.ensures.nodes ∙ ap (λ list. ns ++ Children list ∷ []) c.of.ensures))
    (inner_placed s ns cs c.child_with.result c.requires.linked c.requires.shape c.requires.told c.requires.links
    (c.child_with.ensures.id ∙ c.in_ok-id.ensures.id)
    (c.child_with.ensures.entry ∙ c.inner_entry-entry.ensures
    ∙ ap (λ cs. entry_step s (Inner (map child_entry cs))) c.as_slice-2.ensures.value))
