use Rattle.std.proofs.Common.{rules, arith, ◌≡◌, ◌≤◌, ◌<◌, ◌+◌, ◌-◌, ◌∷◌, [], ℕ, List, length, map, get_or, subst, ap, sym, ◌∙◌}
use Rattle.std.specs.List.{flat_map}
use Rattle.std.proofs.lemmas.List.{take_all}
use Rattle.std.proofs.lemmas.List.Elements.{All-from_recursion}
use Rattle.mr_record.specs.declared.version.Version.TheVariants.{One}
use Rattle.mr_tree.specs.Tree.{level, first_level}
use Rattle.mr_tree.specs.Digest.{by, entry, inner_tag}
use Rattle.mr_tree.specs.HasHashed.{HasHashed, of_entry}
use Rattle.mr_tree.specs.private.Slim.{IsSlim, IsSlimNode}
use Rattle.mr_tree.specs.WellFormed.{HasOneLevel}
use Rattle.mr_tree.specs.declared.tree.Tree.{Tree}
use Rattle.mr_tree.specs.declared.tree.Tree.TheFolds.{every-Tree}
use Rattle.mr_tree.specs.declared.tree.Tree.TheVariants as variants
use Rattle.mr_tree.specs.declared.entry.Entry.{Entry}
use Rattle.mr_tree.proofs.Equations.{level-Inner, level_over-Inner, entry-Inner, entry_count}
use Rattle.mr_tree.proofs.Told.{count_told}
use Rattle.mr_tree.proofs.Gathered.{pieces_more, inner_gathered}
use Rattle.mr_tree.proofs.Induction.{here-Inner, every_child}
use Rattle.mr_tree.specs.Leaves.{leaf_entries}
use Rattle.mr_tree.proofs.Leaves.{leaf_entries-Inner}
use Rattle.mr_pack.proofs.Leaves.{child_fits, child_front, child_back}
use Rattle.mr_pack.proofs.joined.+entry_over.Goals as goal

pub overflow_cast-as_slice : goal.overflow_cast-as_slice
overflow_cast-as_slice g t c =
    let slim = subst IsSlim c.in-Inner.is c.requires.slim in
    let few = (here-Inner IsSlimNode _ slim).0 in
    let n : length c.as_slice.result.now ≤ 64 = omega (arith, few, ap length c.as_slice.ensures) in
    omega arith

pub loop-child-init : goal.loop-child-init
loop-child-init g t c =
    let s = by One g.H.Hashes.of in
    record {
      gathered =
          subst (λ head. HasHashed (g.H.Hashes.holds c.inner-all.result.hasher) c.inner-all.result.rect
          c.inner-all.result.mask c.inner-all.result.count head [])
          (λ i. inner_tag ∷ c.requires.level i
          ∷ length ((c.as_slice.ensures ∙ sym c.as_slice-child-items.ensures) i) ∷ [])
          c.inner-all.ensures;
      left =
          c.requires.entries ∙ ap (leaf_entries s) c.in-Inner.is ∙ leaf_entries-Inner s c.in-Inner.children
          ∙ ap (flat_map (leaf_entries s)) (sym c.as_slice-child-items.ensures);
      few = omega arith;
      none = c.inner-all.ensures.tally;
    }

-- a child of a slim node whose children have one level
child_of : (ts items : List Tree) (k : ℕ) (one : Tree) → IsSlim (variants.Inner ts) →
    every-Tree HasOneLevel (variants.Inner ts) → items ≡ ts → one ≡ get_or items k one → k < length items →
    IsSlim one × every-Tree HasOneLevel one × (level one + 1 ≡ level (variants.Inner ts))
child_of ts items k one slim alike same is within =
    let inside : k < length ts = omega (arith, ap length same) in
    let at : get_or ts k one ≡ one = ap (λ xs. get_or xs k one) (sym same) ∙ sym is in
    let low : level one ≡ first_level (map level ts) = subst (λ child. level child ≡ first_level (map level ts)) at
    (here-Inner HasOneLevel ts alike k one inside).1 in (
      subst IsSlim at (All-from_recursion IsSlim ts (every_child IsSlimNode ts slim) k one inside),
      subst (every-Tree HasOneLevel) at
          (All-from_recursion (every-Tree HasOneLevel) ts (every_child HasOneLevel ts alike) k one inside),
      omega (arith, low, level-Inner ts),
    )

-- version 1 tells no counts
none_told : (hash : List ℕ → List ℕ) (t : Tree) → (entry (by One hash) t).count ≡ 0
none_told hash t = entry_count (by One hash) t ∙ count_told One t

pub add_entry-requires : goal.add_entry-requires
add_entry-requires g t c = record {
  few = omega (
    arith,
    c.loop-child.invariant.none,
    none_told g.H.Hashes.of c.child-item.result,
    ap (λ (e : Entry). e.count) c.entry_over-one.ensures,
  );
}

pub leaf_count-requires : goal.leaf_count-requires
leaf_count-requires g t c =
    let fits = child_fits (by One g.H.Hashes.of) c.as_slice-child-items.result.now c.loop-child.child-index
    c.child-item.result c.loop-child.rest.now c.child-item.is c.loop-child-test.true c.loop-child.invariant.left in
    omega (arith, fits, c.loop-child.invariant.few, c.well_formed.1.1.0.0)

pub entry_over-one-requires : goal.entry_over-one-requires
entry_over-one-requires g t c κs within =
    let slim = subst IsSlim c.in-Inner.is c.requires.slim in
    let alike = subst (every-Tree HasOneLevel) c.in-Inner.is c.requires.alike in
    let child = child_of _ _ _ c.child-item.result slim alike c.as_slice-child-items.ensures c.child-item.is
    c.loop-child-test.true in
    let here : c.args.level ≡ t = c.decreases in
    let above : level c.child-item.result + 1 ≡ c.args.level =
    child.2 ∙ ap level (sym c.in-Inner.is) ∙ sym c.requires.level in
    let smaller : c.args.level - 1 < t = omega (arith, above, here) in
    let below : c.args.level - 1 ≡ level c.child-item.result = omega (arith, above) in (
      smaller,
      (
        search rules,
        (
          child.0,
          (
            child.1,
            (
              below,
              child_front (by One g.H.Hashes.of) c.as_slice-child-items.result.now c.loop-child.child-index
                  c.child-item.result c.loop-child.rest.now c.child-item.is c.loop-child-test.true
                  c.loop-child.invariant.left c.leaf_count.result c.split_at.result.0.now c.leaf_count.ensures
                  c.split_at.ensures.front,
            ),
          ),
        ),
      ),
    )

pub loop-child-preserved : goal.loop-child-preserved
loop-child-preserved g t c =
    let s = by One g.H.Hashes.of in
    let items = c.as_slice-child-items.result.now in
    record {
      gathered =
          subst (HasHashed (g.H.Hashes.holds c.add_entry.new.self.hasher) c.add_entry.new.self.rect
          c.add_entry.new.self.mask c.add_entry.new.self.count (inner_tag ∷ level c.args.tree.now ∷ length items ∷ []))
          (pieces_more (λ (u : Tree). of_entry One (entry s u)) items c.loop-child.child-index c.child-item.result
          (of_entry One c.entry_over-one.result)
          (ap (of_entry One) c.entry_over-one.ensures) c.child-item.is c.loop-child-test.true)
          (c.add_entry.ensures.gathers _ _ c.loop-child.invariant.gathered);
      left =
          child_back s items c.loop-child.child-index c.child-item.result c.loop-child.rest.now c.child-item.is
          c.loop-child-test.true c.loop-child.invariant.left
          c.leaf_count.result c.split_at.result.1.now c.leaf_count.ensures c.split_at.ensures.back;
      few = omega (arith, c.split_at.ensures.back_len, c.loop-child.invariant.few);
      none = omega (
        arith,
        c.add_entry.ensures.counted,
        c.loop-child.invariant.none,
        none_told g.H.Hashes.of c.child-item.result,
        ap (λ (e : Entry). e.count) c.entry_over-one.ensures,
      );
    }

pub returns-after-loop-child : goal.returns-after-loop-child
returns-after-loop-child g t c =
    let s = by One g.H.Hashes.of in
    let items = c.as_slice-child-items.result.now in
    let all = take_all c.loop-child.child-index items (omega arith) in
    let whole = inner_gathered s (g.H.Hashes.holds c.loop-child.all.hasher) (entry s)
    items (level c.args.tree.now) c.close.result
    (ap level (c.in-Inner.is ∙ ap variants.Inner (sym c.as_slice-child-items.ensures)) ∙ sym (level_over-Inner s items))
    (c.close.ensures.level ∙ c.requires.level)
    (subst (HasHashed (g.H.Hashes.holds c.loop-child.all.hasher) c.close.result.rect c.close.result.mask
    c.close.result.count (inner_tag ∷ level c.args.tree.now ∷ length items ∷ []))
    (ap (map (λ (u : Tree). of_entry One (entry s u))) all)
    (record {
      fed = c.loop-child.invariant.gathered.fed;
      round = c.close.ensures.rect ∙ c.loop-child.invariant.gathered.round;
      layers = c.close.ensures.mask ∙ c.loop-child.invariant.gathered.layers;
      tally = c.close.ensures.count ∙ c.loop-child.invariant.gathered.tally;
    }))
    c.close.ensures.digest in
    whole ∙ sym (entry-Inner s items)
    ∙ ap (entry s) (ap variants.Inner c.as_slice-child-items.ensures ∙ sym c.in-Inner.is)
