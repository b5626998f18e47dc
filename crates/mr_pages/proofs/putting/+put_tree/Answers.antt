use Rattle.std.proofs.Common.{rules, ◌≡◌, ◌≤◌, ◌<◌, ◌+◌, suc, ◌∙◌, [], ◌∷◌, length, refl, subst, sym, ap, arith}
use Rattle.mr_tree.specs.Digest.{by}
use Rattle.mr_tree.specs.declared.tree.Tree.TheVariants as tree
use Rattle.mr_tree.specs.declared.tree.Tree.TheOpen as node
use Rattle.mr_pages.specs.PageBytes.{form_of}
use Rattle.std.specs.Prelude.{All}
use Rattle.std.proofs.lemmas.List.Elements.{All-nil}
use Rattle.mr_tree.specs.View.{size, children_in, HasCount}
use Rattle.mr_tree.specs.Tree.{level}
use Rattle.mr_pages.specs.Stands.{all_pages}
use Rattle.mr_pages.proofs.Put.{leaf_entries, leaf_put_at, put_none, room_for, next_behind, child_room, child_can, child_lower, put_one, put_whole, inner_put, siblings, written_whole}
use Rattle.mr_pages.proofs.Laying.{child_layers, child_few, links_told}
use Rattle.mr_pages.specs.Leaves.{KnowsFirst}
use Rattle.mr_pages.specs.Page.{node_entry}
use Rattle.mr_pages.specs.Walking.{page_node}
use Rattle.mr_pages.specs.private.Putting.{AreSiblings, IsPut, some_row, left}
use Rattle.mr_pages.proofs.LeafEntries.{known_leaf, known_child, left_leaf, left_more, left_whole}
use Rattle.mr_pages.proofs.putting.+put_tree.Goals as goal

pub set_leaf-requires-clause-some : goal.set_leaf-requires-clause-some
set_leaf-requires-clause-some g t c =
    let few = leaf_entries c.args.tree.now c.in-Leaf.records c.requires.can c.in-Leaf.is in
    subst (λ rs. 1 ≤ length rs) (sym c.as_slice.ensures) few.0

pub set_leaf-requires-clause-few : goal.set_leaf-requires-clause-few
set_leaf-requires-clause-few g t c =
    let few = leaf_entries c.args.tree.now c.in-Leaf.records c.requires.can c.in-Leaf.is in
    subst (λ rs. length rs ≤ 16) (sym c.as_slice.ensures) few.1

pub put_page-requires-clause-some : goal.put_page-requires-clause-some
put_page-requires-clause-some g t c =
    let few = leaf_entries c.args.tree.now c.in-Leaf.records c.requires.can c.in-Leaf.is in
    subst (λ n. 1 ≤ size n) (sym c.set_leaf.ensures) (subst (λ rs. 1 ≤ length rs) (sym c.as_slice.ensures) few.0)

pub put_page-requires-clause-room : goal.put_page-requires-clause-room
put_page-requires-clause-room g t c =
    omega (
      arith,
      c.len-at.ensures,
      c.args.pages.now.ok,
      c.in_ok-add_page.ensures.size,
      ap length c.as_mut_slice.ensures.value,
    )

pub leaf_on-requires : goal.leaf_on-requires
leaf_on-requires g t c =
    let s = by c.args.layout.version g.H.Hashes.of in
    let few = leaf_entries c.args.tree.now c.in-Leaf.records c.requires.can c.in-Leaf.is in
    record {
      some = subst (λ n. 1 ≤ size n) (sym c.set_leaf.ensures)
          (subst (λ rs. 1 ≤ length rs) (sym c.as_slice.ensures) few.0);
      counts = subst (λ n. All HasCount (children_in n)) (sym c.set_leaf.ensures) (All-nil HasCount);
      known = subst (λ n. KnowsFirst (node_entry s (page_node n) ∷ []) (left c.args.leaves.now))
          (sym (c.set_leaf.ensures ∙ ap node.Leaf c.as_slice.ensures))
          (known_leaf s c.args.tree.now c.in-Leaf.records (left c.args.leaves.now) c.in-Leaf.is c.requires.known);
    }

pub page_behind-next-requires-clause-room : goal.page_behind-next-requires-clause-room
page_behind-next-requires-clause-room g t c =
    let ts = c.as_slice-child-items.result.now in
    let here : length c.args.pages.now.items ≡ c.len-at.result = omega (arith, c.len-at.ensures, c.args.pages.now.ok) in
    let count = suc (length (all_pages (some_row (suc c.args.page) ts c.loop-child.child-index))) in
    let size = next_behind (form_of c.args.layout) g.H.Hashes.of ts c.loop-child.child-index c.args.page c.len-at.result
    c.args.pages.now.items c.loop-child.pages.items c.deref.result.now c.loop-child.links.items here
    c.deref.ensures.value c.loop-child.invariant.put in
    let room = child_room c.args.tree.now ts c.args.page c.loop-child.child-index (c.args.page + count)
    c.child-item.result (c.in-Inner.is ∙ ap tree.Inner (sym c.as_slice-child-items.ensures)) c.loop-child-test.true
    c.child-item.is (omega arith) c.requires.room in
    (count, (size, omega (arith, room)))

pub put_tree-requires : goal.put_tree-requires
put_tree-requires g t c κs within =
    let ts = c.as_slice-child-items.result.now in
    let is = c.in-Inner.is ∙ ap tree.Inner (sym c.as_slice-child-items.ensures) in
    let here : length c.args.pages.now.items ≡ c.len-at.result = omega (arith, c.len-at.ensures, c.args.pages.now.ok) in
    let next : c.page_behind-next.result ≡ suc c.args.page + length
    (all_pages (some_row (suc c.args.page) ts c.loop-child.child-index)) =
    c.page_behind-next.ensures _ (next_behind (form_of c.args.layout) g.H.Hashes.of ts c.loop-child.child-index
    c.args.page c.len-at.result c.args.pages.now.items c.loop-child.pages.items c.deref.result.now
    c.loop-child.links.items here c.deref.ensures.value c.loop-child.invariant.put) ∙ omega arith in
    let room = child_room c.args.tree.now ts c.args.page c.loop-child.child-index
    c.page_behind-next.result c.child-item.result is
    c.loop-child-test.true c.child-item.is next c.requires.room in
    let can = child_can c.args.tree.now ts c.loop-child.child-index c.child-item.result is c.requires.can
    c.loop-child-test.true c.child-item.is in
    let layers = child_layers c.args.layout.version c.args.tree.now ts c.loop-child.child-index c.child-item.result is
    c.requires.layers c.loop-child-test.true c.child-item.is in
    let few = child_few c.args.tree.now ts c.loop-child.child-index c.child-item.result is c.requires.few
    c.loop-child-test.true c.child-item.is in
    let here : level c.args.tree.now ≡ t = c.decreases in
    let lower = child_lower c.args.tree.now ts c.loop-child.child-index c.child-item.result is c.requires.can
    c.loop-child-test.true c.child-item.is in
    let smaller : level c.child-item.result < t = omega (arith, lower, here) in
    let known = known_child (by c.args.layout.version g.H.Hashes.of) c.args.tree.now ts c.loop-child.child-index
    c.child-item.result (left c.args.leaves.now) (left c.loop-child.leaves) is c.requires.known c.loop-child-test.true
    c.child-item.is c.loop-child.invariant.known in
    (smaller, (search rules, (c.requires.layout, (can, (layers, (few, (room, known)))))))

pub loop-child-preserved : goal.loop-child-preserved
loop-child-preserved g t c =
    let ts = c.as_slice-child-items.result.now in
    let here : length c.args.pages.now.items ≡ c.len-at.result = omega (arith, c.len-at.ensures, c.args.pages.now.ok) in
    let next : c.page_behind-next.result ≡ suc c.args.page + length
    (all_pages (some_row (suc c.args.page) ts c.loop-child.child-index)) =
    c.page_behind-next.ensures _ (next_behind (form_of c.args.layout) g.H.Hashes.of ts c.loop-child.child-index
    c.args.page c.len-at.result c.args.pages.now.items c.loop-child.pages.items c.deref.result.now
    c.loop-child.links.items here c.deref.ensures.value c.loop-child.invariant.put) ∙ omega arith in
    record {
      put =
          put_one (form_of c.args.layout) g.H.Hashes.of ts c.loop-child.child-index c.args.page
          c.page_behind-next.result c.args.pages.now.items
          c.loop-child.pages.items
          c.put_tree.new.pages.items c.loop-child.links.items c.push.new.self.items c.child-item.result
          c.in_ok-link-in-Inner.link
          c.loop-child-test.true c.child-item.is next c.loop-child.invariant.put c.in_ok-link-in-Inner.ensures.put
          c.in_ok-push-in-Inner.ensures.items;
      known =
          left_more (by c.args.layout.version g.H.Hashes.of) ts c.loop-child.child-index c.child-item.result
          (left c.args.leaves.now) (left c.loop-child.leaves) (left c.put_tree.new.leaves) c.loop-child-test.true
          c.child-item.is c.loop-child.invariant.known c.in_ok-link-in-Inner.ensures.left;
    }

pub show_children-requires : goal.show_children-requires
show_children-requires g t c =
    let v = c.args.layout.version in
    let ts = c.as_slice-child-items.result.now in
    let is = c.in-Inner.is ∙ ap tree.Inner (sym c.as_slice-child-items.ensures) in
    let end : c.loop-child.child-index ≡ length ts =
    omega (arith, c.loop-child-test.false, c.loop-child.auto.child-index-end) in
    let all = put_whole (form_of c.args.layout) g.H.Hashes.of c.args.tree.now ts c.loop-child.child-index c.args.page
    c.args.pages.now.items c.loop-child.pages.items c.loop-child.links.items is
    c.requires.can c.loop-child.invariant.put
    end in
    let told = links_told (form_of c.args.layout) g.H.Hashes.of c.args.tree.now ts c.loop-child.child-index c.args.page
    c.args.pages.now.items c.loop-child.pages.items c.loop-child.links.items is c.requires.can c.requires.layers
    c.requires.few c.loop-child.invariant.put end in
    subst (AreSiblings v) (sym c.deref-in-Inner.ensures.value) (siblings v ts c.loop-child.links.items all told)

pub put_page-requires-in-Inner-clause-room : goal.put_page-requires-in-Inner-clause-room
put_page-requires-in-Inner-clause-room g t c =
    let ts = c.as_slice-child-items.result.now in
    omega (
      arith,
      c.len-at.ensures,
      c.args.pages.now.ok,
      room_for (form_of c.args.layout) g.H.Hashes.of ts c.loop-child.child-index c.args.page c.args.pages.now.items
          c.loop-child.pages.items c.loop-child.links.items c.loop-child.invariant.put,
      ap length c.as_mut_slice-in-Inner.ensures.value,
    )

pub loop-child-init : goal.loop-child-init
loop-child-init g t c =
    record {
      put =
          put_none (form_of c.args.layout) g.H.Hashes.of c.as_slice-child-items.result.now c.args.page
          c.args.pages.now.items c.add_page.new.pages.items c.new-links.result.items
          c.in_ok-add_page.ensures.page c.new-links.ensures.items;
      known = refl;
    }

pub returns-in-Leaf-clause-left : goal.returns-in-Leaf-clause-left
returns-in-Leaf-clause-left g t c =
    left_leaf (by c.args.layout.version g.H.Hashes.of) c.args.tree.now c.in-Leaf.records (left c.args.leaves.now)
    (left c.leaf_on.new.leaves) c.in-Leaf.is c.leaf_on.ensures.left

pub returns-in-Leaf-clause-put : goal.returns-in-Leaf-clause-put
returns-in-Leaf-clause-put g t c =
    let here : length c.args.pages.now.items ≡ c.len-at.result = omega (arith, c.len-at.ensures, c.args.pages.now.ok) in
    let kept : length c.put_page.new.pages ≡ length c.as_mut_slice.result.now = c.put_page.auto.pages in
    let whole : length c.put_page.new.pages ≡ c.add_page.new.pages.len =
    omega (arith, kept, ap length c.as_mut_slice.ensures.value, c.add_page.new.pages.ok) in
    subst (λ bytes. IsPut (form_of c.args.layout) g.H.Hashes.of c.args.tree.now c.args.page c.args.pages.now.items bytes
    c.leaf_on.result)
    (sym (written_whole c.add_page.new.pages.len c.put_page.new.pages c.add_page.new.pages.items whole))
    (leaf_put_at (form_of c.args.layout) g.H.Hashes.of c.args.tree.now c.in-Leaf.records c.args.page
    c.args.pages.now.items c.add_page.new.pages.items c.put_page.new.pages c.len-at.result c.leaf_on.result
    c.in-Leaf.is here c.in_ok-add_page.ensures.page (c.set_leaf.ensures ∙ ap node.Leaf c.as_slice.ensures)
    c.as_mut_slice.ensures.value c.put_page.ensures kept c.leaf_on.ensures.said)

pub returns-after-loop-child-clause-left : goal.returns-after-loop-child-clause-left
returns-after-loop-child-clause-left g t c =
    let ts = c.as_slice-child-items.result.now in
    left_whole (by c.args.layout.version g.H.Hashes.of) c.args.tree.now ts c.loop-child.child-index
    (left c.args.leaves.now) (left c.loop-child.leaves)
    (c.in-Inner.is ∙ ap tree.Inner (sym c.as_slice-child-items.ensures))
    (omega (arith, c.loop-child-test.false, c.loop-child.auto.child-index-end)) c.loop-child.invariant.known

pub returns-after-loop-child-clause-put : goal.returns-after-loop-child-clause-put
returns-after-loop-child-clause-put g t c =
    let ts = c.as_slice-child-items.result.now in
    let here : length c.args.pages.now.items ≡ c.len-at.result = omega (arith, c.len-at.ensures, c.args.pages.now.ok) in
    let kept : length c.put_page-in-Inner.new.pages ≡ length c.as_mut_slice-in-Inner.result.now =
    c.put_page-in-Inner.auto.pages in
    let whole : length c.put_page-in-Inner.new.pages ≡ c.loop-child.pages.len =
    omega (arith, kept, ap length c.as_mut_slice-in-Inner.ensures.value, c.loop-child.pages.ok) in
    subst (λ bytes. IsPut (form_of c.args.layout) g.H.Hashes.of c.args.tree.now c.args.page c.args.pages.now.items bytes
    c.child_on.result)
    (sym (written_whole c.loop-child.pages.len c.put_page-in-Inner.new.pages c.loop-child.pages.items whole))
    (inner_put (form_of c.args.layout) g.H.Hashes.of c.args.tree.now ts c.loop-child.child-index c.args.page
    c.args.pages.now.items c.loop-child.pages.items c.put_page-in-Inner.new.pages c.len-at.result
    c.loop-child.links.items c.deref-in-Inner.result.now c.child_on.result
    (c.in-Inner.is ∙ ap tree.Inner (sym c.as_slice-child-items.ensures)) c.requires.can c.loop-child.invariant.put
    (omega (arith, c.loop-child-test.false, c.loop-child.auto.child-index-end)) here
    c.deref-in-Inner.ensures.value c.show_children.ensures.shown c.as_mut_slice-in-Inner.ensures.value
    c.put_page-in-Inner.ensures kept
    c.child_on.ensures)
