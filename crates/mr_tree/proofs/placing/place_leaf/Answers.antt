use Rattle.std.proofs.Common.{◌∷◌, ◌++◌, [], subst, sym, ap, ◌∙◌}
use Rattle.std.specs.Prelude.{IsSome}
use Rattle.mr_tree.specs.Digest.{by}
use Rattle.mr_tree.specs.Snapshot.{IsPlaced}
use Rattle.mr_tree.specs.declared.entry.Entry.{Entry}
use Rattle.mr_tree.specs.declared.stored.Stored.TheVariants.{Records}
use Rattle.mr_tree.specs.declared.tree.Tree.TheVariants as variants
use Rattle.mr_tree.proofs.Placements.{leaf_placed, leaf_there}
use Rattle.mr_tree.proofs.placing.place_leaf.Goals as goal

pub child_with-requires : goal.child_with-requires
child_with-requires g c =
    subst (λ (e : Entry). IsSome e.rect) (sym c.leaf_entry-entry.ensures)
    (leaf_there (by c.args.version g.H.Hashes.of) c.args.records.now c.requires.sound.0)

pub returns : goal.returns
returns g c =
    let s = by c.args.version g.H.Hashes.of in
    let ns = c.args.nodes.now.items in
    let rs = c.args.records.now in
    subst (λ ms. IsPlaced s ns ms c.child_with.result (variants.Leaf rs) (variants.Leaf rs ∷ []))
    (sym (c.in_ok-id.ensures.nodes ∙ ap (λ list. ns ++ Records list ∷ []) (c.of.ensures ∙ c.in_ok-list.ensures.items)))
    (leaf_placed s ns rs c.child_with.result c.requires.linked c.requires.sound c.requires.layers
    (c.child_with.ensures.id ∙ c.in_ok-id.ensures.id) (c.child_with.ensures.entry ∙ c.leaf_entry-entry.ensures))
