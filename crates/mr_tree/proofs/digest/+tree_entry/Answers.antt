use Rattle.std.proofs.Common.{rules, arith, ◌≡◌, ◌≤◌, ◌<◌, ◌∷◌, [], ℕ, List, length, map, get_or, subst, ap, sym, ◌∙◌}
use Rattle.std.proofs.lemmas.List.{take_all}
use Rattle.std.proofs.lemmas.List.Elements.{All-from_recursion}
use Rattle.mr_record.specs.declared.version.Version.TheVariants.{Two}
use Rattle.mr_tree.specs.Tree.{level, first_level, records}
use Rattle.mr_tree.specs.Digest.{by, entry, inner_tag}
use Rattle.mr_tree.specs.HasHashed.{HasHashed, of_entry}
use Rattle.mr_tree.specs.private.Slim.{IsSlim, IsSlimNode}
use Rattle.mr_tree.specs.WellFormed.{HasLayers}
use Rattle.mr_tree.specs.declared.entry.Entry.{Entry}
use Rattle.mr_tree.specs.declared.tree.Tree.{Tree}
use Rattle.mr_tree.specs.declared.tree.Tree.TheVariants as variants
use Rattle.mr_tree.proofs.Equations.{level-Inner, level_over-Inner, entry-Inner}
use Rattle.mr_tree.proofs.Told.{entry_count_le}
use Rattle.mr_tree.proofs.Below.{child_few, child_layers, left_behind}
use Rattle.mr_tree.proofs.Gathered.{pieces_more, inner_gathered}
use Rattle.mr_tree.proofs.Induction.{here-Leaf, here-Inner, every_child}
use Rattle.mr_tree.proofs.digest.+tree_entry.Goals as goal

pub leaf_entry-requires-clause-few : goal.leaf_entry-requires-clause-few
leaf_entry-requires-clause-few g t c =
    let slim = subst IsSlim c.in-Leaf.is c.requires.slim in
    omega (arith, here-Leaf IsSlimNode _ slim, ap length c.as_slice.ensures)

pub height-level-requires : goal.height-level-requires
height-level-requires g t c =
    let slim = subst IsSlim c.in-Inner.is c.requires.slim in
    let low = (here-Inner IsSlimNode _ slim).1 in
    omega (arith, low, level-Inner c.in-Inner.children, ap level c.in-Inner.is)

pub overflow_cast-as_slice : goal.overflow_cast-as_slice
overflow_cast-as_slice g t c =
    let slim = subst IsSlim c.in-Inner.is c.requires.slim in
    let few = (here-Inner IsSlimNode _ slim).0 in
    let n : length c.as_slice-in-Inner.result.now ≤ 64 = omega (arith, few, ap length c.as_slice-in-Inner.ensures) in
    omega arith

-- a child of a slim node
child_of : (ts items : List Tree) (k : ℕ) (one : Tree) → IsSlim (variants.Inner ts) → items ≡ ts →
    one ≡ get_or items k one → k < length items → IsSlim one × (level one < level (variants.Inner ts))
child_of ts items k one slim same is within =
    let inside : k < length ts = omega (arith, ap length same) in
    let at : get_or ts k one ≡ one = ap (λ xs. get_or xs k one) (sym same) ∙ sym is in
    let whole : IsSlim one = subst IsSlim at
    (All-from_recursion IsSlim ts (every_child IsSlimNode ts slim) k one inside) in
    let low : level one ≤ first_level (map level ts) = subst (λ child. level child ≤ first_level (map level ts)) at
    ((here-Inner IsSlimNode ts slim).2 k one inside) in
    (whole, omega (arith, low, level-Inner ts))

pub tree_entry-one-requires : goal.tree_entry-one-requires
tree_entry-one-requires g t c κs within =
    let slim = subst IsSlim c.in-Inner.is c.requires.slim in
    let child = child_of _ _ _ c.child-item.result slim c.as_slice-child-items.ensures c.child-item.is
    c.loop-child-test.true in
    let here : level c.args.tree.now ≡ t = c.decreases in
    let smaller : level c.child-item.result < t = omega (arith, child.1, here, ap level c.in-Inner.is) in
    let layers = child_layers Two c.in-Inner.children c.as_slice-child-items.result.now c.loop-child.child-index
    c.child-item.result c.as_slice-child-items.ensures c.child-item.is c.loop-child-test.true
    (subst (HasLayers Two) c.in-Inner.is c.requires.layers) in
    let few : length (records c.child-item.result) ≤ length (records c.args.tree.now) =
    child_few c.in-Inner.children c.as_slice-child-items.result.now c.loop-child.child-index
    c.child-item.result c.as_slice-child-items.ensures c.child-item.is c.loop-child-test.true
    (omega (arith, ap (λ u. length (records u)) c.in-Inner.is)) in
    (smaller, (search rules, (child.0, (layers, omega (arith, few, c.requires.few)))))

pub add_entry-requires : goal.add_entry-requires
add_entry-requires g t c = record {
  few = omega (
    arith,
    c.requires.few,
    c.loop-child.invariant.few,
    left_behind c.as_slice-child-items.result.now c.loop-child.child-index c.child-item.result c.child-item.is
        c.loop-child-test.true,
    ap (λ (e : Entry). e.count) c.tree_entry-one.ensures,
    entry_count_le (by c.args.version g.H.Hashes.of) c.child-item.result,
  );
}

pub loop-child-preserved : goal.loop-child-preserved
loop-child-preserved g t c = record {
  all = subst (HasHashed (g.H.Hashes.holds c.add_entry.new.self.hasher) c.add_entry.new.self.rect
      c.add_entry.new.self.mask c.add_entry.new.self.count
      (inner_tag ∷ level c.args.tree.now ∷ length c.as_slice-child-items.result.now ∷ []))
      (pieces_more (λ (u : Tree). of_entry c.args.version (entry (by c.args.version g.H.Hashes.of) u))
      c.as_slice-child-items.result.now c.loop-child.child-index c.child-item.result _
      (ap (of_entry c.args.version) c.tree_entry-one.ensures) c.child-item.is c.loop-child-test.true)
      (c.add_entry.ensures.gathers _ _ c.loop-child.invariant.all);
  few = omega (
    arith,
    c.add_entry.ensures.counted,
    c.loop-child.invariant.few,
    left_behind c.as_slice-child-items.result.now c.loop-child.child-index c.child-item.result c.child-item.is
        c.loop-child-test.true,
    ap (λ (e : Entry). e.count) c.tree_entry-one.ensures,
    entry_count_le (by c.args.version g.H.Hashes.of) c.child-item.result,
  );
}

pub returns-after-loop-child : goal.returns-after-loop-child
returns-after-loop-child g t c =
    let s = by c.args.version g.H.Hashes.of in
    let items = c.as_slice-child-items.result.now in
    let all = take_all c.loop-child.child-index items (omega arith) in
    let whole = inner_gathered s (g.H.Hashes.holds c.loop-child.all.hasher) (entry s)
    items (level c.args.tree.now) c.close.result
    (ap level (c.in-Inner.is ∙ ap variants.Inner (sym c.as_slice-child-items.ensures)) ∙ sym (level_over-Inner s items))
    (c.close.ensures.level ∙ c.height-level.ensures)
    (subst (HasHashed (g.H.Hashes.holds c.loop-child.all.hasher) c.close.result.rect c.close.result.mask
    c.close.result.count (inner_tag ∷ level c.args.tree.now ∷ length items ∷ []))
    (ap (map (λ (u : Tree). of_entry c.args.version (entry s u))) all)
    (record {
      fed = c.loop-child.invariant.all.fed;
      round = c.close.ensures.rect ∙ c.loop-child.invariant.all.round;
      layers = c.close.ensures.mask ∙ c.loop-child.invariant.all.layers;
      tally = c.close.ensures.count ∙ c.loop-child.invariant.all.tally;
    }))
    c.close.ensures.digest in
    whole ∙ sym (entry-Inner s items)
    ∙ ap (entry s) (ap variants.Inner c.as_slice-child-items.ensures ∙ sym c.in-Inner.is)
