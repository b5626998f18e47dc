use Rattle.std.proofs.Common.{arith, ap, length, length-append, [], ◌∷◌, ◌++◌, ◌-◌, sym, ◌∙◌}
use Rattle.mr_tree.specs.Digest.{by}
use Rattle.mr_proof.specs.Cut.{number_of_cuts}
use Rattle.mr_proof.specs.Fields.{inner_tag}
use Rattle.mr_proof.specs.Spelling.{cuts_bytes}
use Rattle.mr_clash.proofs.Taking.{next_item, passed_more, all_passed}
use Rattle.mr_clash.proofs.Nodes.{inner_passed, item_pruned, item_leaf, item_inner}
use Rattle.mr_clash.proofs.items.+items.Goals as goal

pub pass_inner-returns : goal.pass_inner-returns
pass_inner-returns g t c = λ Ps rest low fits is.
    let u = c.args.version in
    let a = c.byte-tag.ensures inner_tag (number_of_cuts Ps ∷ cuts_bytes u Ps ++ rest) is in
    let n = c.byte-count.ensures (number_of_cuts Ps) (cuts_bytes u Ps ++ rest) a.1 in
    let p = c.in_ok-children.ensures.passed Ps rest (omega (arith, low)) fits.1 (sym n.0) n.1 in
    inner_passed (by u g.H.Hashes.of) (c.args.level - 1) c.args.level Ps rest c.in_ok-children.children.items
    c.deref.result.now _ _ (omega (arith, c.requires)) low fits fits.1 p.say c.deref.ensures.value
    c.inner_entry.ensures p.behind

pub pass_item-returns-then-is_pruned : goal.pass_item-returns-then-is_pruned
pass_item-returns-then-is_pruned g t c = λ P rest low fits is.
    item_pruned (by c.args.version g.H.Hashes.of) c.args.level P rest _ _ c.pass_pruned.result
    (sym (c.is_pruned.ensures c.args.version P rest is) ∙ c.if-is_pruned.true) is fits
    (λ part fit here. c.pass_pruned.ensures g.H.Hashes.of part rest fit here)

pub pass_item-returns-then-level-eq0 : goal.pass_item-returns-then-level-eq0
pass_item-returns-then-level-eq0 g t c = λ P rest low fits is.
    item_leaf (by c.args.version g.H.Hashes.of) c.args.level P rest _ _ c.pass_leaf.result c.if-level-eq0.true
    (sym (c.is_pruned.ensures c.args.version P rest is) ∙ c.if-is_pruned.false) is fits
    (λ rs fit here. c.pass_leaf.ensures rs rest fit here)

pub pass_item-returns : goal.pass_item-returns
pass_item-returns g t c = λ P rest low fits is.
    item_inner (by c.args.version g.H.Hashes.of) c.args.level P rest _ _ c.pass_inner.result c.if-level-eq0.false
    (sym (c.is_pruned.ensures c.args.version P rest is) ∙ c.if-is_pruned.false) is fits
    (λ Ps fit here. c.pass_inner.ensures Ps rest low fit here)

pub pass_items-loop-preserved : goal.pass_items-loop-preserved
pass_items-loop-preserved g t c = record {
  passed = λ Ps rest low fits count is.
      let so = c.loop.invariant.passed Ps rest low fits count is in
      let n = next_item (by c.args.version g.H.Hashes.of) c.args.level Ps rest c.loop.counter _
      (omega (arith, count, c.loop-test.true))
      fits
      so.left_is in
      passed_more (by c.args.version g.H.Hashes.of)
      c.args.level Ps rest c.loop.counter c.loop.list.items c.push.new.self.items _ _
      c.in_ok-one.one so n (c.in_ok-one.ensures n.cut _ low n.fits n.here) c.in_ok-push.ensures.items;
  few = ap length c.in_ok-push.ensures.items
      ∙ omega (arith, c.loop.invariant.few, length-append c.loop.list.items (c.in_ok-one.one ∷ []));
}

pub pass_items-returns-clause-passed : goal.pass_items-returns-clause-passed
pass_items-returns-clause-passed g t c = λ Ps rest low fits count is.
    all_passed (by c.args.version g.H.Hashes.of) c.args.level Ps rest c.loop.counter c.loop.list.items _
    (omega (arith, count, c.loop-test.false)) (c.loop.invariant.passed Ps rest low fits count is)
