use Rattle.std.proofs.Common.{arith, ap, length, length-append, refl, [], ◌∷◌, ◌++◌, ◌-◌, sym, subst, ◌∙◌}
use Rattle.std.specs.Prelude.{◌≡◌, All, Ok, option_map}
use Rattle.mr_tree.specs.Nodes.{MapModel}
use Rattle.mr_tree.specs.View.{records_in, preimage_of}
use Rattle.mr_record.specs.Record.{HasLayer}
use Rattle.mr_record.specs.declared.version.Version.{Version}
use Rattle.mr_proof.specs.Cut.{number_of_cuts}
use Rattle.mr_tree.specs.Digest.{by}
use Rattle.mr_proof.specs.Fields.{inner_tag}
use Rattle.mr_proof.specs.Spelling.{cuts_bytes}
use Rattle.mr_clash.specs.private.Steps.{left, WalksChildren, pair_of}
use Rattle.mr_clash.specs.declared.error.AuditErr.{AuditErr}
use Rattle.mr_clash.proofs.Nodes.{above_zero}
use Rattle.mr_clash.proofs.Rows.{child_level, walked_at, walked_more, all_walked, other_count}
use Rattle.mr_clash.proofs.Walks.{pruned_walked, leaf_walked, inner_walked}
use Rattle.mr_clash.proofs.Fetches.{opened_one, opened_inner, fetched_more}
use Rattle.mr_clash.proofs.walking.+walk.Goals as goal

pub walk_children-returns-then-from-children-clause-walked : goal.walk_children-returns-then-from-children-clause-walked
walk_children-returns-then-from-children-clause-walked g t c = λ Ps rest fits is.
    let a = c.byte-tag.ensures inner_tag (number_of_cuts Ps ∷ cuts_bytes c.args.version Ps ++ rest) is in
    let n = c.byte-count.ensures (number_of_cuts Ps) (cuts_bytes c.args.version Ps ++ rest) a.1 in
    c.walk_all.ensures.walked Ps rest fits.1 (sym n.0 ∙ sym c.from.ensures ∙ c.if-from-children.true) n.1

pub walk_children-returns-clause-walked : goal.walk_children-returns-clause-walked
walk_children-returns-clause-walked g t c = λ Ps rest fits is.
    let a = c.byte-tag.ensures inner_tag (number_of_cuts Ps ∷ cuts_bytes c.args.version Ps ++ rest) is in
    let n = c.byte-count.ensures (number_of_cuts Ps) (cuts_bytes c.args.version Ps ++ rest) a.1 in
    other_count (by c.args.version g.N.Hash.Hashes.of) (g.N.Nodes.stands c.args.nodes.now) (c.args.level - 1)
    c.args.children.now Ps rest
    _ _ (λ e. c.if-from-children.false (c.from.ensures ∙ n.0 ∙ e))
    (c.in_ok-entries.ensures.passed Ps rest (omega (arith, c.requires.low)) fits.1 (sym n.0) n.1)

pub walk-returns-then-is_pruned-clause-walked : goal.walk-returns-then-is_pruned-clause-walked
walk-returns-then-is_pruned-clause-walked g t c = λ P rest fits is.
    pruned_walked (by c.args.version g.N.Hash.Hashes.of) (g.N.Nodes.stands c.args.nodes.now) c.args.child.now P rest
    (left c.args.from.now) _ c.pass_pruned-entry.result
    (sym (c.is_pruned.ensures c.args.version P rest is) ∙ c.if-is_pruned.true) is
    fits (λ part fit here. c.pass_pruned-entry.ensures g.N.Hash.Hashes.of part rest fit here)

pub walk-returns-then-child-eq0-clause-walked : goal.walk-returns-then-child-eq0-clause-walked
walk-returns-then-child-eq0-clause-walked g t c = λ P rest fits is.
    let shows = c.in_ok-fetch.ensures.shows in
    let one = c.requires.version in
    let held = subst (λ (v : Version). g.N.Hash.Hashes.of (preimage_of v c.fetch.new.view) ≡ c.args.child.now.digest)
    one shows.digest in
    let layers = subst (λ (v : Version). All (HasLayer v) (records_in c.fetch.new.view)) one shows.told.layers in
    leaf_walked (by c.args.version g.N.Hash.Hashes.of) (g.N.Nodes.stands c.args.nodes.now)
    one c.args.child.now c.fetch.new.view shows P
    rest (left c.args.from.now) _ (preimage_of c.args.version c.fetch.new.view)
    c.in_ok-leaf.leaf fits c.if-child-eq0.true
    (sym (c.is_pruned.ensures c.args.version P rest is) ∙ c.if-is_pruned.false) is refl
    (λ rs fit here. c.in_ok-leaf.ensures held layers rs rest fit here)

pub walk-returns-clause-walked : goal.walk-returns-clause-walked
walk-returns-clause-walked g t c = λ P rest fits is.
    let hash = g.N.Hash.Hashes.of in
    let scheme = by c.args.version hash in
    let s = g.N.Nodes.stands c.args.nodes.now in
    let shows = c.in_ok-fetch.ensures.shows in
    let above = above_zero _ c.args.child.now.level (sym shows.level) c.if-child-eq0.false in
    let stands = g.met.N.Nodes.kept_stands c.args.nodes.now c.fetch.new.nodes c.in_ok-fetch.ensures.kept in
    let walked = subst (λ (s : MapModel). WalksChildren {E = AuditErr} scheme s c.args.child.now.level
    c.children.result.now (left c.args.from.now) (left c.walk_children.new.from) (Ok c.in_ok-row.row)) stands
    c.in_ok-row.ensures.walked in
    let held = subst (λ (v : Version). hash (preimage_of v c.fetch.new.view) ≡ c.args.child.now.digest)
    c.requires.version shows.digest in
    inner_walked scheme s c.requires.version c.args.child.now c.fetch.new.view shows c.digests_are_sized.ensures
    c.requires.may.low P
    c.children.result.now rest
    (left c.args.from.now) (left c.walk_children.new.from) (preimage_of c.args.version c.fetch.new.view) c.in_ok-row.row
    c.in_ok-inner.inner
    fits c.if-child-eq0.false (sym (c.is_pruned.ensures c.args.version P rest is) ∙ c.if-is_pruned.false)
    is refl c.is_view.ensures
    (c.children.ensures.inner above) c.children.ensures.value
    (λ Ps fit here. walked Ps rest fit here) (c.in_ok-inner.ensures held)

pub walk_all-loop-child-preserved : goal.walk_all-loop-child-preserved
walk_all-loop-child-preserved g t c =
    let scheme = by c.args.version g.N.Hash.Hashes.of in
    let s = g.N.Nodes.stands c.args.nodes.now in
    let child = c.child-item.result in
    let stands = g.met.N.Nodes.kept_stands c.args.nodes.now c.loop-child.nodes c.loop-child.invariant.kept in
    let level = child_level c.args.level c.args.children.now c.loop-child.child-index child c.loop-child-test.true
    c.child-item.is c.requires.alike in
    let walked = walked_at scheme (g.N.Nodes.stands c.loop-child.nodes) s child c.args.level (left c.loop-child.from)
    (left c.walk.new.from) c.in_ok-one.one stands level c.in_ok-one.ensures.walked in
    record {
      kept = g.met.N.Nodes.kept_on c.args.nodes.now c.loop-child.nodes c.walk.new.nodes c.loop-child.invariant.kept
          c.in_ok-one.ensures.kept;
      still = c.in_ok-one.ensures.causes.quiet ∙ c.loop-child.invariant.still;
      unrefused = c.in_ok-one.ensures.answered.none ∙ c.loop-child.invariant.unrefused;
      fetched = λ Ps rest fits count is.
          fetched_more scheme child.level c.args.level Ps rest c.loop-child.child-index (left c.loop-child.from)
          (g.N.Nodes.fetches c.args.nodes.now) (g.N.Nodes.fetches c.loop-child.nodes)
          (g.N.Nodes.fetches c.walk.new.nodes) (omega (arith, count, c.loop-child-test.true)) fits
          (c.loop-child.invariant.some Ps rest fits count is).left_is level c.in_ok-one.ensures.fetched
          (c.loop-child.invariant.fetched Ps rest fits count is);
      count = ap length c.in-Ok.ensures.items
          ∙ omega (
            arith,
            c.loop-child.invariant.count,
            length-append c.loop-child.entries.items (c.in_ok-one.one.entry ∷ []),
          );
      some = λ Ps rest fits count is.
          walked_more scheme s c.args.level c.args.children.now Ps rest c.loop-child.child-index child
          c.loop-child.entries.items c.push.new.self.items (option_map pair_of c.loop-child.clash) _
          (left c.loop-child.from) (left c.walk.new.from) c.in_ok-one.one c.loop-child-test.true c.child-item.is count
          fits (c.loop-child.invariant.some Ps rest fits count is) walked c.in-Ok.ensures.items
          c.first_of-clash.ensures;
    }

pub walk_all-returns-clause-walked : goal.walk_all-returns-clause-walked
walk_all-returns-clause-walked g t c = λ Ps rest fits count is.
    all_walked (by c.args.version g.N.Hash.Hashes.of) (g.N.Nodes.stands c.args.nodes.now)
    c.args.level c.args.children.now Ps rest
    c.loop-child.child-index _ (left c.loop-child.from) c.loop-child-test.false count
    (c.loop-child.invariant.some Ps rest fits count is)

-- ---- how many nodes are fetched

pub walk_children-returns-then-from-children-clause-fetched :
    goal.walk_children-returns-then-from-children-clause-fetched
walk_children-returns-then-from-children-clause-fetched g t c = λ Ps rest fits is.
    let a = c.byte-tag.ensures inner_tag (number_of_cuts Ps ∷ cuts_bytes c.args.version Ps ++ rest) is in
    let n = c.byte-count.ensures (number_of_cuts Ps) (cuts_bytes c.args.version Ps ++ rest) a.1 in
    c.walk_all.ensures.fetched Ps rest fits.1 (sym n.0 ∙ sym c.from.ensures ∙ c.if-from-children.true) n.1

pub walk-returns-in_err-fetch-clause-fetched : goal.walk-returns-in_err-fetch-clause-fetched
walk-returns-in_err-fetch-clause-fetched g t c = λ P rest fits is.
    let one = opened_one P (sym (c.is_pruned.ensures c.args.version P rest is) ∙ c.if-is_pruned.false) in
    omega (arith, one, c.in_err-fetch.ensures.counted)

pub walk-returns-in_err-leaf-clause-fetched : goal.walk-returns-in_err-leaf-clause-fetched
walk-returns-in_err-leaf-clause-fetched g t c = λ P rest fits is.
    let one = opened_one P (sym (c.is_pruned.ensures c.args.version P rest is) ∙ c.if-is_pruned.false) in
    omega (arith, one, c.in_ok-fetch.ensures.counted)

pub walk-returns-then-child-eq0-clause-fetched : goal.walk-returns-then-child-eq0-clause-fetched
walk-returns-then-child-eq0-clause-fetched g t c = λ P rest fits is.
    let one = opened_one P (sym (c.is_pruned.ensures c.args.version P rest is) ∙ c.if-is_pruned.false) in
    omega (arith, one, c.in_ok-fetch.ensures.counted)

pub walk-returns-in_err-row-clause-fetched : goal.walk-returns-in_err-row-clause-fetched
walk-returns-in_err-row-clause-fetched g t c = λ P rest fits is.
    opened_inner c.args.version c.args.child.now.level P rest (left c.args.from.now)
    (g.N.Nodes.fetches c.args.nodes.now)
    (g.N.Nodes.fetches c.fetch.new.nodes) (g.N.Nodes.fetches c.walk_children.new.nodes) c.if-child-eq0.false
    (sym (c.is_pruned.ensures c.args.version P rest is) ∙ c.if-is_pruned.false) fits is c.in_ok-fetch.ensures.counted
    c.in_err-row.ensures.fetched

pub walk-returns-in_err-inner-clause-fetched : goal.walk-returns-in_err-inner-clause-fetched
walk-returns-in_err-inner-clause-fetched g t c = λ P rest fits is.
    opened_inner c.args.version c.args.child.now.level P rest (left c.args.from.now)
    (g.N.Nodes.fetches c.args.nodes.now)
    (g.N.Nodes.fetches c.fetch.new.nodes) (g.N.Nodes.fetches c.walk_children.new.nodes) c.if-child-eq0.false
    (sym (c.is_pruned.ensures c.args.version P rest is) ∙ c.if-is_pruned.false) fits is c.in_ok-fetch.ensures.counted
    c.in_ok-row.ensures.fetched

pub walk-returns-clause-fetched : goal.walk-returns-clause-fetched
walk-returns-clause-fetched g t c = λ P rest fits is.
    opened_inner c.args.version c.args.child.now.level P rest (left c.args.from.now)
    (g.N.Nodes.fetches c.args.nodes.now)
    (g.N.Nodes.fetches c.fetch.new.nodes) (g.N.Nodes.fetches c.walk_children.new.nodes) c.if-child-eq0.false
    (sym (c.is_pruned.ensures c.args.version P rest is) ∙ c.if-is_pruned.false) fits is c.in_ok-fetch.ensures.counted
    c.in_ok-row.ensures.fetched

pub walk_all-returns-in_err-one-clause-fetched : goal.walk_all-returns-in_err-one-clause-fetched
walk_all-returns-in_err-one-clause-fetched g t c = λ Ps rest fits count is.
    let child = c.child-item.result in
    let level = child_level c.args.level c.args.children.now c.loop-child.child-index child c.loop-child-test.true
    c.child-item.is c.requires.alike in
    let more = fetched_more (by c.args.version g.N.Hash.Hashes.of)
    child.level c.args.level Ps rest c.loop-child.child-index
    (left c.loop-child.from) (g.N.Nodes.fetches c.args.nodes.now) (g.N.Nodes.fetches c.loop-child.nodes)
    (g.N.Nodes.fetches c.walk.new.nodes) (omega (arith, count, c.loop-child-test.true)) fits
    (c.loop-child.invariant.some Ps rest fits count is).left_is level c.in_err-one.ensures.fetched
    (c.loop-child.invariant.fetched Ps rest fits count is) in
    omega (arith, more)

pub walk_all-returns-in-Err-clause-fetched : goal.walk_all-returns-in-Err-clause-fetched
walk_all-returns-in-Err-clause-fetched g t c = λ Ps rest fits count is.
    let child = c.child-item.result in
    let level = child_level c.args.level c.args.children.now c.loop-child.child-index child c.loop-child-test.true
    c.child-item.is c.requires.alike in
    let more = fetched_more (by c.args.version g.N.Hash.Hashes.of)
    child.level c.args.level Ps rest c.loop-child.child-index
    (left c.loop-child.from) (g.N.Nodes.fetches c.args.nodes.now) (g.N.Nodes.fetches c.loop-child.nodes)
    (g.N.Nodes.fetches c.walk.new.nodes) (omega (arith, count, c.loop-child-test.true)) fits
    (c.loop-child.invariant.some Ps rest fits count is).left_is level c.in_ok-one.ensures.fetched
    (c.loop-child.invariant.fetched Ps rest fits count is) in
    omega (arith, more)

pub walk_all-returns-clause-fetched : goal.walk_all-returns-clause-fetched
walk_all-returns-clause-fetched g t c = λ Ps rest fits count is.
    let all = c.loop-child.invariant.fetched Ps rest fits count is in omega (arith, all)
