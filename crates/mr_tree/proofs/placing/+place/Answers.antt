use Rattle.std.proofs.Common.{rules, ◌≡◌, ◌<◌, length, subst, sym, ap, ◌∙◌, arith}
use Rattle.std.proofs.lemmas.List.{take_all}
use Rattle.mr_tree.specs.Tree.{level, records}
use Rattle.mr_tree.specs.Snapshot.{trees, tree_over}
use Rattle.mr_tree.specs.private.Sound.{IsSound, IsSoundNode}
use Rattle.mr_tree.specs.declared.stored.Stored.TheVariants.{Children}
use Rattle.mr_tree.specs.declared.tree.Tree.TheVariants as variants
use Rattle.mr_tree.specs.declared.tree.Tree.TheOpen.{Leaf}
use Rattle.mr_tree.proofs.Induction.{here-Leaf}
use Rattle.mr_tree.proofs.Soundness.{child_sound}
use Rattle.mr_tree.specs.Digest.{by}
use Rattle.mr_tree.specs.WellFormed.{HasLayers}
use Rattle.mr_tree.proofs.Told.{told_counts}
use Rattle.mr_tree.proofs.Below.{child_few, child_layers}
use Rattle.mr_tree.proofs.Placements.{told_more, links_more, below_more, grown_more, shape_over, placed_on, leaf_on, grown_all, room_more, room_last, room_leaf}
use Rattle.mr_tree.proofs.placing.+place.Goals as goal

pub place_leaf-requires-clause-sound : goal.place_leaf-requires-clause-sound
place_leaf-requires-clause-sound g t c =
    subst (λ rs. IsSoundNode (Leaf rs)) (sym c.as_slice.ensures)
    (here-Leaf IsSoundNode c.in-Leaf.records (subst IsSound c.in-Leaf.is c.requires.sound))

pub place-requires : goal.place-requires
place-requires g t c κs within =
    let sound = subst IsSound c.in-Inner.is c.requires.sound in
    let child = child_sound _ _ _ c.child-item.result sound c.as_slice-child-items.ensures c.child-item.is
    c.loop-child-test.true in
    let here : level c.args.tree.now ≡ t = c.decreases in
    let smaller : level c.child-item.result < t = omega (arith, child.2, here, ap level c.in-Inner.is) in
    let room = room_more _ _ _ _ _ c.child-item.result c.loop-child.child-index c.as_slice-child-items.ensures
    c.in-Inner.is c.requires.room c.loop-child.invariant.grown c.child-item.is c.loop-child-test.true in
    let few = child_few c.in-Inner.children c.as_slice-child-items.result.now c.loop-child.child-index
    c.child-item.result c.as_slice-child-items.ensures c.child-item.is c.loop-child-test.true
    (omega (arith, c.requires.few, ap (λ u. length (records u)) c.in-Inner.is)) in
    let layers = child_layers c.args.version c.in-Inner.children c.as_slice-child-items.result.now
    c.loop-child.child-index
    c.child-item.result c.as_slice-child-items.ensures c.child-item.is c.loop-child-test.true
    (subst (HasLayers c.args.version) c.in-Inner.is c.requires.layers) in
    (smaller, (search rules, (child.0, (layers, (child.1, (few, (room, c.loop-child.invariant.linked)))))))

pub place_leaf-requires-clause-room : goal.place_leaf-requires-clause-room
place_leaf-requires-clause-room g t c =
    room_leaf c.args.nodes.now.items c.in-Leaf.records c.args.tree.now c.in-Leaf.is c.requires.room

pub place_inner-requires-clause-room : goal.place_inner-requires-clause-room
place_inner-requires-clause-room g t c =
    room_last c.args.nodes.now.items c.loop-child.nodes.items c.in-Inner.children _ c.args.tree.now
    (take_all c.loop-child.child-index c.as_slice-child-items.result.now c.loop-child-test.false
    ∙ c.as_slice-child-items.ensures)
    c.in-Inner.is c.requires.room c.loop-child.invariant.grown

pub loop-child-preserved : goal.loop-child-preserved
loop-child-preserved g t c =
    let hash = (by c.args.version g.H.Hashes.of) in
    let placed = c.in_ok-place-in-Inner.ensures in
    let ns = c.loop-child.nodes.items in
    let ms = c.place.new.nodes.items in
    let items = c.as_slice-child-items.result.now in
    let i = c.loop-child.child-index in
    let one = c.child-item.result in
    let so_far = c.loop-child.invariant in
    let child = child_sound _ _ _ one (subst IsSound c.in-Inner.is c.requires.sound) c.as_slice-child-items.ensures
    c.child-item.is c.loop-child-test.true in
    record {
      linked = placed.linked;
      grown = grown_more hash c.args.nodes.now.items ns ms c.in_ok-place-in-Inner.field-0 items i one placed
          c.child-item.is c.loop-child-test.true so_far.grown;
      links = links_more hash ns ms c.loop-child.entries.items c.push.new.self.items c.in_ok-place-in-Inner.field-0 one
          placed so_far.links c.in_ok-push-in-Inner.ensures.items;
      told = told_more hash ns ms c.loop-child.entries.items c.push.new.self.items
          c.in_ok-place-in-Inner.field-0 one placed child.0 child.1
          (child_few c.in-Inner.children items i one c.as_slice-child-items.ensures c.child-item.is
          c.loop-child-test.true
          (omega (arith, c.requires.few, ap (λ u. length (records u)) c.in-Inner.is)))
          (child_layers c.args.version c.in-Inner.children items i one c.as_slice-child-items.ensures c.child-item.is
          c.loop-child-test.true (subst (HasLayers c.args.version) c.in-Inner.is c.requires.layers))
          so_far.told c.in_ok-push-in-Inner.ensures.items;
      below = below_more hash ns ms c.loop-child.entries.items c.push.new.self.items c.in_ok-place-in-Inner.field-0
          items i one placed so_far.links c.in_ok-push-in-Inner.ensures.items c.child-item.is c.loop-child-test.true
          so_far.below;
    }

pub place_inner-requires-clause-shape : goal.place_inner-requires-clause-shape
place_inner-requires-clause-shape g t c =
    shape_over (by c.args.version g.H.Hashes.of) (trees c.loop-child.nodes.items) c.in-Inner.children
    c.loop-child.entries.items
    c.loop-child.invariant.links
    (told_counts c.args.version c.loop-child.entries.items c.loop-child.invariant.told)
    (c.loop-child.invariant.below
    ∙ take_all c.loop-child.child-index c.as_slice-child-items.result.now c.loop-child-test.false
    ∙ c.as_slice-child-items.ensures)
    (subst IsSound c.in-Inner.is c.requires.sound)

pub returns-in-Leaf : goal.returns-in-Leaf
returns-in-Leaf g t c =
    leaf_on (by c.args.version g.H.Hashes.of) c.args.nodes.now.items c.place_leaf.new.nodes.items c.place_leaf.result
    c.args.tree.now
    c.as_slice.result.now c.place_leaf.ensures (c.in-Leaf.is ∙ ap variants.Leaf (sym c.as_slice.ensures))

pub returns-after-loop-child : goal.returns-after-loop-child
returns-after-loop-child g t c =
    let all = take_all c.loop-child.child-index c.as_slice-child-items.result.now c.loop-child-test.false
    ∙ c.as_slice-child-items.ensures in
    placed_on (by c.args.version g.H.Hashes.of) c.args.nodes.now.items c.loop-child.nodes.items
    c.place_inner.new.nodes.items
    c.place_inner.result (tree_over (trees c.loop-child.nodes.items) (Children c.loop-child.entries.items))
    c.args.tree.now c.in-Inner.children c.place_inner.ensures
    (grown_all c.args.nodes.now.items c.loop-child.nodes.items _ c.in-Inner.children c.loop-child.invariant.grown all)
    (ap variants.Inner (c.loop-child.invariant.below ∙ all)) c.in-Inner.is
