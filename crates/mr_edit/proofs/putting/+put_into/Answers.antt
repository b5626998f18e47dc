use Rattle.std.proofs.Common.{◌≡◌, ◌<◌, ◌+◌, List, ◌++◌, ◌∷◌, [], length, map, sym, ap, subst, ◌∙◌, arith}
use Rattle.std.specs.Prelude.{IfSome}
use Rattle.std.specs.List.{AllByRecursion}
use Rattle.std.proofs.lemmas.Result.{IfOk-weaker, IfErr-weaker}
use Rattle.std.proofs.lemmas.List.Elements.{recursion_from_All}
use Rattle.mr_tree.specs.View.{records_in, children_in, level_of}
use Rattle.mr_tree.specs.declared.child.Child.{Child}
use Rattle.mr_tree.specs.declared.tree.Tree.TheOpen as node
use Rattle.mr_split.specs.Choice.{choose}
use Rattle.mr_pages.specs.Walking.{page_node}
use Rattle.mr_edit.specs.PageMap.{HasNode}
use Rattle.mr_edit.specs.Held.{entries, IsTold, HaveFew}
use Rattle.mr_edit.specs.Outcome.{PutsInner}
use Rattle.mr_edit.specs.Growing.{CanGrow}
use Rattle.mr_edit.proofs.Results.{on_any}
use Rattle.mr_edit.proofs.Levels.{AreBelow, replaced_below, replaced_all, replaced_length, few_entries}
use Rattle.mr_edit.proofs.Descending.{grows_leaf, grows_below}
use Rattle.mr_edit.proofs.Growth.{leaf_put, child_grow, inner_put}
use Rattle.mr_edit.proofs.Looking.{can_look}
use Rattle.mr_edit.proofs.Sound.{never, handed}
use Rattle.mr_edit.proofs.putting.+put_into.Goals as goal

-- the list that was put is this one
put_few : {P : Type 0} {cs ds : List Child} → P × HaveFew cs → cs ≡ ds → P × HaveFew ds
put_few p is = (p.0, subst HaveFew is p.1)

pub put_inner-requires-clause-below : goal.put_inner-requires-clause-below
put_inner-requires-clause-below g t c =
    let cs = c.in_ok-children.children.items in
    let view = c.read_checked.new.into in
    let same : cs ≡ children_in view = c.in_ok-children.ensures.items ∙ c.children.ensures.value in
    let shown : AreBelow (level_of view) (children_in view) = recursion_from_All
    (λ (x : Child). x.level + 1 ≡ level_of view) (children_in view) c.children.ensures.alike in
    let below : AreBelow c.level-level.result cs =
    subst (λ n. AreBelow n cs) (sym c.level-level.ensures.value) (subst (AreBelow (level_of view)) (sym same) shown) in
    let within : c.in_ok-at.at < length cs = omega (arith, c.in_ok-at.ensures.within, ap length c.deref.ensures.value)
    in
    subst (AreBelow c.level-level.result) (sym c.in_ok-children-2.ensures)
    (replaced_below c.level-level.result c.in_ok-at.at cs (entries c.in_ok-stand.stand) c.index.result.now below within
    c.index.ensures c.in_ok-stand.ensures.level)

pub put_inner-requires-clause-told : goal.put_inner-requires-clause-told
put_inner-requires-clause-told g t c =
    let cs = c.in_ok-children.children.items in
    let view = c.read_checked.new.into in
    let same : cs ≡ children_in view = c.in_ok-children.ensures.items ∙ c.children.ensures.value in
    replaced_all (IsTold g.F.PageFile.scheme.version) c.in_ok-at.at cs (entries c.in_ok-stand.stand)
    c.in_ok-children-2.children.items
    c.in_ok-children-2.ensures
    (subst (AllByRecursion (IsTold g.F.PageFile.scheme.version)) (sym same)
    (recursion_from_All (IsTold g.F.PageFile.scheme.version) (children_in view)
    c.in_ok-read_checked.ensures.shown.children))
    c.in_ok-stand.ensures.told

pub put_inner-requires-clause-few : goal.put_inner-requires-clause-few
put_inner-requires-clause-few g t c =
    let cs = c.in_ok-children.children.items in
    let same : cs ≡ children_in c.read_checked.new.into = c.in_ok-children.ensures.items ∙ c.children.ensures.value in
    let within : c.in_ok-at.at < length cs = omega (arith, c.in_ok-at.ensures.within, ap length c.deref.ensures.value)
    in
    omega (
      arith,
      ap length c.in_ok-children-2.ensures,
      replaced_length c.in_ok-at.at cs (entries c.in_ok-stand.stand) within,
      few_entries c.in_ok-stand.stand,
      ap length same,
      c.children.ensures.length_at_most,
    )

pub returns-in_ok-records-clause-grows : goal.returns-in_ok-records-clause-grows
returns-in_ok-records-clause-grows g t c =
    let view = c.read_checked.new.into in
    let rs = records_in view in
    let is = c.records.ensures.leaf (sym c.level-level.ensures.value ∙ c.if-level-eq0.true) in
    IfOk-weaker c.put_leaf.result _ _
    (λ s h. grows_leaf g.F.PageFile.scheme (g.F.PageFile.told c.args.pager.now.file)
    (g.F.PageFile.told c.read_checked.new.file) (g.F.PageFile.told c.put_leaf.new.pager.file)
    c.args.pager.now.free c.put_leaf.new.pager.free c.args.child.now c.args.one.now rs c.in_ok-records.records.items
    (entries s) c.in_ok-read_checked.ensures.same
    (subst (λ n. IfSome (g.F.PageFile.told c.args.pager.now.file) (λ b. HasNode b c.args.child.now.id (page_node n))) is
    c.in_ok-read_checked.ensures.node)
    (c.in_ok-records.ensures ∙ ap (λ us. us ++ c.args.one.now ∷ []) c.records.ensures.value) h)
    c.put_leaf.ensures.puts

pub returns-in_ok-children-2-clause-grows : goal.returns-in_ok-children-2-clause-grows
returns-in_ok-children-2-clause-grows g t c =
    let cs = c.in_ok-children.children.items in
    let view = c.read_checked.new.into in
    let same : cs ≡ children_in view = c.in_ok-children.ensures.items ∙ c.children.ensures.value in
    let high : 0 < c.level-level.result = omega (arith, c.if-level-eq0.false) in
    let is = c.children.ensures.inner (subst (λ n. 0 < n) c.level-level.ensures.value high) in
    let within : c.in_ok-at.at < length cs = omega (arith, c.in_ok-at.ensures.within, ap length c.deref.ensures.value)
    in
    IfOk-weaker c.put_inner.result _ _
    (λ s h. grows_below g.F.PageFile.scheme (g.F.PageFile.told c.args.pager.now.file)
    (g.F.PageFile.told c.read_checked.new.file) (g.F.PageFile.told c.put_into.new.pager.file)
    (g.F.PageFile.told c.put_inner.new.pager.file)
    c.args.pager.now.free c.put_into.new.pager.free c.put_inner.new.pager.free c.args.child.now c.args.one.now
    c.in_ok-at.at cs (entries c.in_ok-stand.stand) (entries s) c.index.result.now
    c.in_ok-read_checked.ensures.same
    (subst (λ n. IfSome (g.F.PageFile.told c.args.pager.now.file)
    (λ b. HasNode b c.args.child.now.id (page_node n))) (is
    ∙ ap node.Inner (sym same)) c.in_ok-read_checked.ensures.node)
    (c.in_ok-at.ensures.value ∙ ap (λ us. choose (map (λ (x : Child). x.rect) us) c.args.one.now.rect)
    c.deref.ensures.value) within c.index.ensures c.in_ok-stand.ensures.grows
    (subst (λ us. PutsInner g.F.PageFile.scheme (g.F.PageFile.told c.put_into.new.pager.file)
    c.put_into.new.pager.free
    (g.F.PageFile.told c.put_inner.new.pager.file) c.put_inner.new.pager.free c.args.child.now.id us (entries s))
    c.in_ok-children-2.ensures h))
    c.put_inner.ensures.puts

pub returns-in_err-read_checked-clause-blames_none_told : goal.returns-in_err-read_checked-clause-blames_none_told
returns-in_err-read_checked-clause-blames_none_told g t c =
    let told = g.F.PageFile.told c.args.pager.now.file in
    handed c.from_residual.result c.in_err-read_checked.field-0.0
    (CanGrow g.F.PageFile.scheme c.args.root told c.args.pager.now.free c.args.child.now c.args.one.now)
    c.from_residual.ensures.1
    (never c.in_err-read_checked.field-0.0 _ _
    (λ k. can_look g.F.PageFile.scheme c.args.root told c.args.pager.now.free c.args.child.now k.below)
    c.in_err-read_checked.ensures.blames_none_told)

pub returns-in_ok-records-clause-blames_none_told : goal.returns-in_ok-records-clause-blames_none_told
returns-in_ok-records-clause-blames_none_told g t c =
    let view = c.read_checked.new.into in
    let told = g.F.PageFile.told c.args.pager.now.file in
    let is = c.records.ensures.leaf (sym c.level-level.ensures.value ∙ c.if-level-eq0.true) in
    IfErr-weaker c.put_leaf.result _ _
    (λ e h. never e _ _ (leaf_put g.F.PageFile.scheme c.args.root told (g.F.PageFile.told c.read_checked.new.file)
    c.args.pager.now.free c.args.child.now c.args.one.now (records_in view) c.in_ok-read_checked.ensures.same
    (subst (λ n. IfSome told (λ b. HasNode b c.args.child.now.id (page_node n))) is
    c.in_ok-read_checked.ensures.node)) h)
    c.put_leaf.ensures.blames_none_told

pub returns-in_err-stand-clause-blames_none_told : goal.returns-in_err-stand-clause-blames_none_told
returns-in_err-stand-clause-blames_none_told g t c =
    let cs = c.in_ok-children.children.items in
    let view = c.read_checked.new.into in
    let told = g.F.PageFile.told c.args.pager.now.file in
    let same : cs ≡ children_in view = c.in_ok-children.ensures.items ∙ c.children.ensures.value in
    let high : 0 < c.level-level.result = omega (arith, c.if-level-eq0.false) in
    let is = c.children.ensures.inner (subst (λ n. 0 < n) c.level-level.ensures.value high) in
    let within : c.in_ok-at.at < length cs = omega (arith, c.in_ok-at.ensures.within, ap length c.deref.ensures.value)
    in
    handed c.from_residual-in_err-stand.result c.in_err-stand.field-0.0
    (CanGrow g.F.PageFile.scheme c.args.root told c.args.pager.now.free c.args.child.now c.args.one.now)
    c.from_residual-in_err-stand.ensures.1
    (never c.in_err-stand.field-0.0 _ _
    (child_grow g.F.PageFile.scheme c.args.root told (g.F.PageFile.told c.read_checked.new.file) c.args.pager.now.free
    c.args.child.now c.args.one.now c.in_ok-at.at cs c.index.result.now c.in_ok-read_checked.ensures.same
    (subst (λ n. IfSome told (λ b. HasNode b c.args.child.now.id (page_node n))) (is ∙ ap node.Inner (sym same))
    c.in_ok-read_checked.ensures.node)
    (c.in_ok-at.ensures.value ∙ ap (λ us. choose (map (λ (x : Child). x.rect) us) c.args.one.now.rect)
    c.deref.ensures.value) within c.index.ensures)
    c.in_err-stand.ensures.blames_none_told)

pub returns-in_ok-children-2-clause-blames_none_told : goal.returns-in_ok-children-2-clause-blames_none_told
returns-in_ok-children-2-clause-blames_none_told g t c =
    let cs = c.in_ok-children.children.items in
    let view = c.read_checked.new.into in
    let told = g.F.PageFile.told c.args.pager.now.file in
    let same : cs ≡ children_in view = c.in_ok-children.ensures.items ∙ c.children.ensures.value in
    let high : 0 < c.level-level.result = omega (arith, c.if-level-eq0.false) in
    let is = c.children.ensures.inner (subst (λ n. 0 < n) c.level-level.ensures.value high) in
    let within : c.in_ok-at.at < length cs = omega (arith, c.in_ok-at.ensures.within, ap length c.deref.ensures.value)
    in
    IfErr-weaker c.put_inner.result _ _
    (λ e h. never e _ _ (λ k. put_few (inner_put g.F.PageFile.scheme c.args.root told
    (g.F.PageFile.told c.read_checked.new.file)
    c.args.pager.now.free c.args.child.now c.args.one.now c.in_ok-at.at cs c.index.result.now
    (g.F.PageFile.told c.put_into.new.pager.file) c.put_into.new.pager.free (entries c.in_ok-stand.stand)
    c.in_ok-read_checked.ensures.same
    (subst (λ n. IfSome told (λ b. HasNode b c.args.child.now.id (page_node n))) (is ∙ ap node.Inner (sym same))
    c.in_ok-read_checked.ensures.node)
    (c.in_ok-at.ensures.value ∙ ap (λ us. choose (map (λ (x : Child). x.rect) us) c.args.one.now.rect)
    c.deref.ensures.value) within c.index.ensures c.in_ok-stand.ensures.grows k)
    (sym c.in_ok-children-2.ensures)) h)
    c.put_inner.ensures.blames_none_told

pub returns-in_ok-children-2-clause-kept : goal.returns-in_ok-children-2-clause-kept
returns-in_ok-children-2-clause-kept g t c =
    let law = g.met.F.PageFile.kept_on in
    law c.args.pager.now.file c.read_checked.new.file c.put_inner.new.pager.file c.read_checked.ensures.kept
    (law c.read_checked.new.file c.put_into.new.pager.file c.put_inner.new.pager.file c.put_into.ensures.kept
    c.put_inner.ensures.kept)

pub returns-in_ok-records-clause-low : goal.returns-in_ok-records-clause-low
returns-in_ok-records-clause-low g t c =
    on_any c.put_leaf.result
    (omega (arith, c.in_ok-read_checked.ensures.level, c.level-level.ensures.value, c.level-level.ensures.low))

pub returns-in_ok-children-2-clause-low : goal.returns-in_ok-children-2-clause-low
returns-in_ok-children-2-clause-low g t c =
    on_any c.put_inner.result
    (omega (arith, c.in_ok-read_checked.ensures.level, c.level-level.ensures.value, c.level-level.ensures.low))
