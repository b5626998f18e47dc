use Rattle.std.proofs.Common.{◌≡◌, ◌<◌, ◌≤◌, ◌+◌, ◌-◌, false, length, refl, sym, ap, subst, ◌∙◌, arith, ◌++◌, suc, take, drop}
use Rattle.std.specs.Prelude.{IfSome}
use Rattle.std.specs.List.{AllByRecursion}
use Rattle.std.specs.Option.{option_to_list}
use Rattle.std.proofs.lemmas.List.Elements.{recursion_from_All}
use Rattle.mr_tree.specs.View.{records_in, children_in, level_of}
use Rattle.mr_tree.specs.declared.child.Child.{Child}
use Rattle.mr_tree.specs.declared.tree.Tree.TheOpen as node
use Rattle.mr_grow.specs.Found.{is_numbered, place_of}
use Rattle.mr_pages.specs.Walking.{page_node}
use Rattle.mr_edit.specs.PageMap.{HasNode}
use Rattle.mr_edit.specs.Counted.{ReadsNodesOnce, LeavesOnce, TakesTwice}
use Rattle.mr_edit.specs.Held.{IsTold}
use Rattle.mr_edit.specs.declared.removal.Removal.{Removal}
use Rattle.mr_edit.specs.private.Removal.{LacksRecord, LeavesInner, SearchesSubtree}
use Rattle.mr_edit.specs.private.Removable.{CanLeave, CanTakeOut}
use Rattle.mr_edit.proofs.FreeReads.{beside_none, once_looked}
use Rattle.mr_edit.proofs.Levels.{AreBelow, AreOf, replaced_below, replaced_all}
use Rattle.mr_edit.proofs.Shown.{of_option}
use Rattle.mr_edit.proofs.Searching.{NoneYet, outside, none_first, none_tried, replaced_few, lacks_inner}
use Rattle.mr_edit.proofs.Removed.{removes_leaf, lacks_leaf, removes_below}
use Rattle.mr_edit.proofs.Looking.{can_look}
use Rattle.mr_edit.proofs.Owners.{known_writes}
use Rattle.mr_edit.proofs.Sought.{sought_below, leave_left}
use Rattle.mr_edit.proofs.SearchReads.{once_searched, once_twice, takes_below, takes_leaf, twice_below, twice_left, twice_looked}
use Rattle.mr_edit.proofs.Sound.{never, handed}
use Rattle.mr_edit.proofs.Tries.{TriedOnce, new_try, none_again, none_past, tried_next, tried_none, tried_still, turned_again, turned_on, turned_past}
use Rattle.mr_edit.proofs.removing.+take_out.Goals as goal

pub returns-then-at-len-clause-searches : goal.returns-then-at-len-clause-searches
returns-then-at-len-clause-searches g t c =
    let view = c.read_checked.new.into in
    let rs = c.in_ok-records.records.items in
    let same : rs ≡ records_in view = c.in_ok-records.ensures.items ∙ c.records.ensures.value in
    let is = c.records.ensures.leaf (sym c.level-level.ensures.value ∙ c.if-level-eq0.true) ∙ ap node.Leaf (sym same) in
    let reads = subst (λ n. IfSome (g.F.PageFile.told c.args.pager.now.file)
    (λ b. HasNode b c.args.child.now.id (page_node n))) is c.in_ok-read_checked.ensures.node in
    let place = c.position_of-at.ensures ∙ ap (place_of (is_numbered c.args.number)) c.deref.ensures.value in
    let past : length rs ≤ c.position_of-at.result = omega (
      arith,
      c.if-at-len.true,
      c.len.ensures,
      c.in_ok-records.records.ok,
    ) in (
      c.in_ok-read_checked.ensures.same,
      refl,
      lacks_leaf g.F.PageFile.scheme (g.F.PageFile.told c.args.pager.now.file)
          c.args.child.now c.args.number c.args.rect.now rs c.position_of-at.result reads place past,
    )

pub returns-in_ok-leave_records-clause-searches : goal.returns-in_ok-leave_records-clause-searches
returns-in_ok-leave_records-clause-searches g t c =
    let view = c.read_checked.new.into in
    let rs = c.in_ok-records.records.items in
    let same : rs ≡ records_in view = c.in_ok-records.ensures.items ∙ c.records.ensures.value in
    let is = c.records.ensures.leaf (sym c.level-level.ensures.value ∙ c.if-level-eq0.true) ∙ ap node.Leaf (sym same) in
    let reads = subst (λ n. IfSome (g.F.PageFile.told c.args.pager.now.file)
    (λ b. HasNode b c.args.child.now.id (page_node n))) is c.in_ok-read_checked.ensures.node in
    let place = c.position_of-at.ensures ∙ ap (place_of (is_numbered c.args.number)) c.deref.ensures.value in
    let within : c.position_of-at.result < length rs = omega (
      arith,
      c.if-at-len.false,
      c.len.ensures,
      c.in_ok-records.records.ok,
    ) in
    removes_leaf g.F.PageFile.scheme c.args.root (g.F.PageFile.told c.args.pager.now.file)
    (g.F.PageFile.told c.read_checked.new.file) (g.F.PageFile.told c.leave_records.new.pager.file) c.args.pager.now.free
    c.leave_records.new.pager.free c.args.child.now c.args.number c.args.rect.now
    rs c.remove.new.self.items c.position_of-at.result (option_to_list c.in_ok-leave_records.field-0.entry)
    c.in_ok-leave_records.field-0.aside.items
    c.in_ok-read_checked.ensures.same reads place within c.remove.ensures.items c.in_ok-leave_records.ensures.leaves

pub loop-n-preserved-then-not-may_hold : goal.loop-n-preserved-then-not-may_hold
loop-n-preserved-then-not-may_hold g t c = record {
  same = c.loop-n.invariant.same;
  free = c.loop-n.invariant.free;
  kept = c.loop-n.invariant.kept;
  quiet = c.loop-n.invariant.quiet;
  none = none_tried g.F.PageFile.scheme (g.F.PageFile.told c.read_checked.new.file) c.children-children.result.now
      c.args.number c.args.rect.now c.loop-n.n c.turn-turn.result c.tried-at.result c.index-children-at.result
      c.tried-at.ensures (omega (arith, c.if-at-children.false)) c.index-children-at.is
      (outside g.F.PageFile.scheme (g.F.PageFile.told c.read_checked.new.file) c.index-children-at.result c.args.number
      c.args.rect.now (c.may_hold.ensures.outside c.if-not-may_hold.true)) c.loop-n.invariant.none;
  turned = λ some. turned_on g.F.PageFile.scheme (g.F.PageFile.told c.read_checked.new.file)
      c.children-children.result.now c.args.number c.args.rect.now c.loop-n.n c.turn-turn.result c.tried-at.result
      c.index-children-at.result c.tried-at.ensures (omega (arith, c.if-at-children.false)) c.index-children-at.is
      (outside g.F.PageFile.scheme (g.F.PageFile.told c.read_checked.new.file) c.index-children-at.result c.args.number
      c.args.rect.now (c.may_hold.ensures.outside c.if-not-may_hold.true)) c.loop-n.invariant.turned;
  tried = tried_still g.F.PageFile.scheme (g.F.PageFile.told c.read_checked.new.file) c.children-children.result.now
      c.turn-turn.result c.loop-n.n (g.F.PageFile.reads c.read_checked.new.file)
      (g.F.PageFile.reads c.loop-n.pager.file)
      c.loop-n.invariant.tried;
}

pub loop-n-preserved : goal.loop-n-preserved
loop-n-preserved g t c =
    let d = c.index-children-at-in-loop-n.result in
    let s = subst (SearchesSubtree g.F.PageFile.scheme false (g.F.PageFile.told c.loop-n.pager.file) c.loop-n.pager.free
    (g.F.PageFile.told c.take_out.new.pager.file) c.take_out.new.pager.free d c.args.number c.args.rect.now)
    c.in_default.is c.in_ok-found.ensures.searches in
    record {
      same = s.0 ∙ c.loop-n.invariant.same;
      free = s.1 ∙ c.loop-n.invariant.free;
      kept = g.met.F.PageFile.kept_on c.read_checked.new.file c.loop-n.pager.file c.take_out.new.pager.file
          c.loop-n.invariant.kept c.take_out.ensures.kept;
      quiet = c.in_ok-found.ensures.quiet ∙ c.loop-n.invariant.quiet;
      none = none_tried g.F.PageFile.scheme (g.F.PageFile.told c.read_checked.new.file) c.children-children.result.now
          c.args.number c.args.rect.now c.loop-n.n c.turn-turn.result c.tried-at.result d
          c.tried-at.ensures (omega (arith, c.if-at-children.false)) c.index-children-at-in-loop-n.is
          (subst (λ o. LacksRecord g.F.PageFile.scheme o d c.args.number c.args.rect.now) c.loop-n.invariant.same s.2)
          c.loop-n.invariant.none;
      turned = λ some. turned_on g.F.PageFile.scheme (g.F.PageFile.told c.read_checked.new.file)
          c.children-children.result.now c.args.number c.args.rect.now c.loop-n.n c.turn-turn.result c.tried-at.result d
          c.tried-at.ensures (omega (arith, c.if-at-children.false)) c.index-children-at-in-loop-n.is
          (subst (λ o. LacksRecord g.F.PageFile.scheme o d c.args.number c.args.rect.now) c.loop-n.invariant.same s.2)
          c.loop-n.invariant.turned;
      tried = tried_next g.F.PageFile.scheme (g.F.PageFile.told c.read_checked.new.file) c.children-children.result.now
          c.turn-turn.result c.loop-n.n c.tried-at.result d (g.F.PageFile.reads c.read_checked.new.file)
          (g.F.PageFile.reads c.loop-n.pager.file) (g.F.PageFile.reads c.take_out.new.pager.file) c.tried-at.ensures
          (new_try c.loop-n.n c.turn-turn.result c.tried-at.result (sym c.is_again.ensures ∙ c.if-is_again.false))
          (omega (arith, c.if-at-children.false)) c.index-children-at-in-loop-n.is
          (subst (λ o. ReadsNodesOnce g.F.PageFile.scheme o d (g.F.PageFile.reads c.loop-n.pager.file)
          (g.F.PageFile.reads c.take_out.new.pager.file)) c.loop-n.invariant.same
          (subst (TakesTwice g.F.PageFile.scheme false (g.F.PageFile.told c.loop-n.pager.file) c.loop-n.pager.free
          d c.args.number c.args.rect.now (g.F.PageFile.reads c.loop-n.pager.file)
          (g.F.PageFile.reads c.take_out.new.pager.file)) c.in_default.is c.in_ok-found.ensures.takes))
          c.loop-n.invariant.tried;
    }

pub leave-requires-clause-few : goal.leave-requires-clause-few
leave-requires-clause-few g t c =
    let cs = c.children-children.result.now in
    let within : c.tried-at.result < length cs = omega (arith, c.if-at-children.false) in
    let few : length cs ≤ 64 = subst (λ us. length us ≤ 64) (sym c.children-children.ensures.value)
    c.children-children.ensures.length_at_most in
    let fewer = replaced_few c.tried-at.result cs c.in-Some.left.entry within in
    let all : length (take c.tried-at.result cs ++ (option_to_list c.in-Some.left.entry
    ++ drop (suc c.tried-at.result) cs)) ≤ 64 = omega (arith, fewer, few) in
    subst (λ us. length us ≤ 64) (sym (c.deref-in-loop-n.ensures.value ∙ c.in_ok-rest.ensures)) all

pub returns-in-loop-n-clause-kept : goal.returns-in-loop-n-clause-kept
returns-in-loop-n-clause-kept g t c =
    g.met.F.PageFile.kept_on c.args.pager.now.file c.read_checked.new.file c.leave.new.pager.file
    c.in_ok-read_checked.ensures.kept
    (g.met.F.PageFile.kept_on c.read_checked.new.file c.loop-n.pager.file c.leave.new.pager.file c.loop-n.invariant.kept
    (g.met.F.PageFile.kept_on c.loop-n.pager.file c.take_out.new.pager.file c.leave.new.pager.file
    c.in_ok-found.ensures.kept c.in_ok-left.ensures.kept))

pub leave-requires-clause-below : goal.leave-requires-clause-below
leave-requires-clause-below g t c =
    let cs = c.children-children.result.now in
    let view = c.read_checked.new.into in
    let d = c.index-children-at-in-loop-n.result in
    let shown : AreBelow (level_of view) (children_in view) = recursion_from_All
    (λ (x : Child). x.level + 1 ≡ level_of view) (children_in view) c.children-children.ensures.alike in
    let below : AreBelow c.level-level.result cs =
    subst (λ n. AreBelow n cs) (sym c.level-level.ensures.value)
    (subst (AreBelow (level_of view)) (sym c.children-children.ensures.value) shown) in
    let levels : AreOf d.level (option_to_list c.in-Some.left.entry) =
    subst (λ o. IfSome o (λ (l : Removal). AreOf d.level (option_to_list l.entry))) c.in-Some.is
    (c.in_ok-found.ensures.level refl) in
    subst (AreBelow c.level-level.result) (sym (c.deref-in-loop-n.ensures.value ∙ c.in_ok-rest.ensures))
    (replaced_below c.level-level.result c.tried-at.result cs (option_to_list c.in-Some.left.entry) d below
    (omega (arith, c.if-at-children.false)) c.index-children-at-in-loop-n.is levels)

pub leave-requires-clause-told : goal.leave-requires-clause-told
leave-requires-clause-told g t c =
    let cs = c.children-children.result.now in
    let view = c.read_checked.new.into in
    let entry = c.in-Some.left.entry in
    replaced_all (IsTold g.F.PageFile.scheme.version) c.tried-at.result cs (option_to_list entry)
    c.deref-in-loop-n.result.now
    (c.deref-in-loop-n.ensures.value ∙ c.in_ok-rest.ensures)
    (subst (AllByRecursion (IsTold g.F.PageFile.scheme.version)) (sym c.children-children.ensures.value)
    (recursion_from_All (IsTold g.F.PageFile.scheme.version) (children_in view)
    c.in_ok-read_checked.ensures.shown.children))
    (of_option (IsTold g.F.PageFile.scheme.version) entry
    (subst (λ o. IfSome o (λ (l : Removal). IfSome l.entry (IsTold g.F.PageFile.scheme.version))) c.in-Some.is
    c.in_ok-found.ensures.told))

pub returns-in_err-left-clause-kept : goal.returns-in_err-left-clause-kept
returns-in_err-left-clause-kept g t c =
    g.met.F.PageFile.kept_on c.args.pager.now.file c.read_checked.new.file c.leave.new.pager.file
    c.in_ok-read_checked.ensures.kept
    (g.met.F.PageFile.kept_on c.read_checked.new.file c.loop-n.pager.file c.leave.new.pager.file c.loop-n.invariant.kept
    (g.met.F.PageFile.kept_on c.loop-n.pager.file c.take_out.new.pager.file c.leave.new.pager.file
    c.in_ok-found.ensures.kept c.in_err-left.ensures.kept))

pub returns-in-loop-n-clause-searches : goal.returns-in-loop-n-clause-searches
returns-in-loop-n-clause-searches g t c =
    let view = c.read_checked.new.into in
    let cs = c.children-children.result.now in
    let high : 0 < c.level-level.result = omega (arith, c.if-level-eq0.false) in
    let is = c.children-children.ensures.inner (subst (λ n. 0 < n) c.level-level.ensures.value high)
    ∙ ap node.Inner (sym c.children-children.ensures.value) in
    let reads = subst (λ n. IfSome (g.F.PageFile.told c.args.pager.now.file)
    (λ b. HasNode b c.args.child.now.id (page_node n))) is c.in_ok-read_checked.ensures.node in
    let d = c.index-children-at-in-loop-n.result in
    let l = c.in-Some.left in
    let out = c.in_ok-left.left in
    let back = c.loop-n.invariant.same ∙ c.in_ok-read_checked.ensures.same in
    removes_below g.F.PageFile.scheme c.args.root (g.F.PageFile.told c.args.pager.now.file)
    (g.F.PageFile.told c.loop-n.pager.file) (g.F.PageFile.told c.take_out.new.pager.file)
    (g.F.PageFile.told c.leave.new.pager.file)
    c.args.pager.now.free c.loop-n.pager.free c.take_out.new.pager.free c.leave.new.pager.free c.args.child.now
    c.args.number c.args.rect.now c.tried-at.result cs
    (option_to_list l.entry) (option_to_list out.entry) l.aside.items out.aside.items d back c.loop-n.invariant.free
    reads (omega (arith, c.if-at-children.false)) c.index-children-at-in-loop-n.is
    (subst (SearchesSubtree g.F.PageFile.scheme false (g.F.PageFile.told c.loop-n.pager.file) c.loop-n.pager.free
    (g.F.PageFile.told c.take_out.new.pager.file) c.take_out.new.pager.free d c.args.number c.args.rect.now)
    c.in-Some.is c.in_ok-found.ensures.searches)
    (subst (λ us. LeavesInner g.F.PageFile.scheme c.args.root (g.F.PageFile.told c.take_out.new.pager.file)
    c.take_out.new.pager.free (g.F.PageFile.told c.leave.new.pager.file) c.leave.new.pager.free c.args.child.now.id us
    l.aside.items (option_to_list out.entry) out.aside.items)
    (c.deref-in-loop-n.ensures.value ∙ c.in_ok-rest.ensures) c.in_ok-left.ensures.leaves)

pub returns-after-loop-n-clause-searches : goal.returns-after-loop-n-clause-searches
returns-after-loop-n-clause-searches g t c =
    let view = c.read_checked.new.into in
    let cs = c.children-children.result.now in
    let high : 0 < c.level-level.result = omega (arith, c.if-level-eq0.false) in
    let is = c.children-children.ensures.inner (subst (λ n. 0 < n) c.level-level.ensures.value high)
    ∙ ap node.Inner (sym c.children-children.ensures.value) in
    let reads = subst (λ n. IfSome (g.F.PageFile.told c.args.pager.now.file)
    (λ b. HasNode b c.args.child.now.id (page_node n))) is c.in_ok-read_checked.ensures.node in (
      c.loop-n.invariant.same ∙ c.in_ok-read_checked.ensures.same,
      c.loop-n.invariant.free,
      lacks_inner g.F.PageFile.scheme (g.F.PageFile.told c.args.pager.now.file) c.args.child.now cs c.args.number
          c.args.rect.now (c.loop-n.n - 1) reads (omega (arith, c.loop-n-test.false))
          (subst (λ o. NoneYet g.F.PageFile.scheme o cs c.args.number c.args.rect.now (c.loop-n.n - 1))
          c.in_ok-read_checked.ensures.same c.loop-n.invariant.none),
    )

pub returns-in_err-read_checked-clause-blames_none_told : goal.returns-in_err-read_checked-clause-blames_none_told
returns-in_err-read_checked-clause-blames_none_told g t c =
    handed c.from_residual.result c.in_err-read_checked.field-0.0
    (CanTakeOut g.F.PageFile.scheme c.args.root (g.F.PageFile.told c.args.pager.now.file) c.args.pager.now.free
    c.args.child.now c.args.number c.args.rect.now) c.from_residual.ensures.1
    (never c.in_err-read_checked.field-0.0 _ _
    (λ k. can_look g.F.PageFile.scheme c.args.root (g.F.PageFile.told c.args.pager.now.file) c.args.pager.now.free
    c.args.child.now k.below)
    c.in_err-read_checked.ensures.blames_none_told)

pub returns-in_err-leave_records-clause-blames_none_told : goal.returns-in_err-leave_records-clause-blames_none_told
returns-in_err-leave_records-clause-blames_none_told g t c =
    handed c.from_residual-in_err-leave_records.result c.in_err-leave_records.field-0.0
    (CanTakeOut g.F.PageFile.scheme c.args.root (g.F.PageFile.told c.args.pager.now.file) c.args.pager.now.free
    c.args.child.now c.args.number c.args.rect.now) c.from_residual-in_err-leave_records.ensures.1
    (never c.in_err-leave_records.field-0.0 _ _
    (λ k. known_writes g.F.PageFile.scheme c.args.root (g.F.PageFile.told c.args.pager.now.file)
    (g.F.PageFile.told c.read_checked.new.file) c.args.pager.now.free c.args.child.now c.in_ok-read_checked.ensures.same
    k.below)
    c.in_err-leave_records.ensures.blames_none_told)

pub returns-in_err-found-clause-blames_none_told : goal.returns-in_err-found-clause-blames_none_told
returns-in_err-found-clause-blames_none_told g t c =
    let view = c.read_checked.new.into in
    let cs = c.children-children.result.now in
    let high : 0 < c.level-level.result = omega (arith, c.if-level-eq0.false) in
    let is = c.children-children.ensures.inner (subst (λ n. 0 < n) c.level-level.ensures.value high)
    ∙ ap node.Inner (sym c.children-children.ensures.value) in
    let reads = subst (λ n. IfSome (g.F.PageFile.told c.args.pager.now.file)
    (λ b. HasNode b c.args.child.now.id (page_node n))) is c.in_ok-read_checked.ensures.node in
    let d = c.index-children-at-in-loop-n.result in
    let back = c.loop-n.invariant.same ∙ c.in_ok-read_checked.ensures.same in
    handed c.from_residual-in_err-found.result c.in_err-found.field-0.0
    (CanTakeOut g.F.PageFile.scheme c.args.root (g.F.PageFile.told c.args.pager.now.file) c.args.pager.now.free
    c.args.child.now c.args.number c.args.rect.now) c.from_residual-in_err-found.ensures.1
    (never c.in_err-found.field-0.0 _ _
    (λ k. sought_below g.F.PageFile.scheme c.args.root (g.F.PageFile.told c.args.pager.now.file)
    (g.F.PageFile.told c.loop-n.pager.file) c.args.pager.now.free c.loop-n.pager.free c.args.child.now c.args.number
    c.args.rect.now c.tried-at.result cs d back c.loop-n.invariant.free reads (omega (arith, c.if-at-children.false))
    c.index-children-at-in-loop-n.is k)
    c.in_err-found.ensures.blames_none_told)

pub returns-in_err-left-clause-blames_none_told : goal.returns-in_err-left-clause-blames_none_told
returns-in_err-left-clause-blames_none_told g t c =
    let view = c.read_checked.new.into in
    let cs = c.children-children.result.now in
    let high : 0 < c.level-level.result = omega (arith, c.if-level-eq0.false) in
    let is = c.children-children.ensures.inner (subst (λ n. 0 < n) c.level-level.ensures.value high)
    ∙ ap node.Inner (sym c.children-children.ensures.value) in
    let reads = subst (λ n. IfSome (g.F.PageFile.told c.args.pager.now.file)
    (λ b. HasNode b c.args.child.now.id (page_node n))) is c.in_ok-read_checked.ensures.node in
    let d = c.index-children-at-in-loop-n.result in
    let back = c.loop-n.invariant.same ∙ c.in_ok-read_checked.ensures.same in
    handed c.from_residual-in_err-left.result c.in_err-left.field-0.0
    (CanTakeOut g.F.PageFile.scheme c.args.root (g.F.PageFile.told c.args.pager.now.file) c.args.pager.now.free
    c.args.child.now c.args.number c.args.rect.now) c.from_residual-in_err-left.ensures.1
    (never c.in_err-left.field-0.0 _ _
    (λ k. subst (CanLeave g.F.PageFile.scheme (g.F.PageFile.told c.take_out.new.pager.file) c.take_out.new.pager.free
    c.args.child.now.id) (sym (c.deref-in-loop-n.ensures.value ∙ c.in_ok-rest.ensures))
    (leave_left g.F.PageFile.scheme c.args.root (g.F.PageFile.told c.args.pager.now.file)
    (g.F.PageFile.told c.loop-n.pager.file) (g.F.PageFile.told c.take_out.new.pager.file) c.args.pager.now.free
    c.loop-n.pager.free c.take_out.new.pager.free c.args.child.now c.args.number c.args.rect.now c.tried-at.result cs
    (option_to_list c.in-Some.left.entry) c.in-Some.left.aside.items d back c.loop-n.invariant.free reads
    (omega (arith, c.if-at-children.false)) c.index-children-at-in-loop-n.is
    (subst (SearchesSubtree g.F.PageFile.scheme false (g.F.PageFile.told c.loop-n.pager.file) c.loop-n.pager.free
    (g.F.PageFile.told c.take_out.new.pager.file) c.take_out.new.pager.free d c.args.number c.args.rect.now)
    c.in-Some.is c.in_ok-found.ensures.searches) k))
    c.in_err-left.ensures.blames_none_told)

pub loop-n-init : goal.loop-n-init
loop-n-init g t c = record {
  same = refl;
  free = refl;
  kept = g.met.F.PageFile.kept_self c.read_checked.new.file;
  quiet = refl;
  none = none_first g.F.PageFile.scheme (g.F.PageFile.told c.read_checked.new.file) c.children-children.result.now
      c.args.number c.args.rect.now;
  turned = λ some. absurd (some refl);
  tried = tried_none g.F.PageFile.scheme (g.F.PageFile.told c.read_checked.new.file) c.children-children.result.now
      c.turn-turn.result (g.F.PageFile.reads c.read_checked.new.file);
}

pub loop-n-preserved-then-at-children : goal.loop-n-preserved-then-at-children
loop-n-preserved-then-at-children g t c = record {
  same = c.loop-n.invariant.same;
  free = c.loop-n.invariant.free;
  kept = c.loop-n.invariant.kept;
  quiet = c.loop-n.invariant.quiet;
  none = none_past g.F.PageFile.scheme (g.F.PageFile.told c.read_checked.new.file) c.children-children.result.now
      c.args.number c.args.rect.now c.loop-n.n c.turn-turn.result c.tried-at.result
      c.tried-at.ensures
      (omega (arith, c.if-at-children.true)) (omega (arith, c.loop-n-test.true)) c.loop-n.invariant.none;
  turned = λ some. turned_past g.F.PageFile.scheme (g.F.PageFile.told c.read_checked.new.file)
      c.children-children.result.now c.args.number c.args.rect.now c.loop-n.n c.turn-turn.result c.tried-at.result
      c.tried-at.ensures (omega (arith, c.if-at-children.true)) c.loop-n.invariant.turned;
  tried = tried_still g.F.PageFile.scheme (g.F.PageFile.told c.read_checked.new.file) c.children-children.result.now
      c.turn-turn.result c.loop-n.n (g.F.PageFile.reads c.read_checked.new.file)
      (g.F.PageFile.reads c.loop-n.pager.file)
      c.loop-n.invariant.tried;
}

pub loop-n-preserved-then-is_again : goal.loop-n-preserved-then-is_again
loop-n-preserved-then-is_again g t c =
    let again = sym c.is_again.ensures ∙ c.if-is_again.true in
    record {
      same = c.loop-n.invariant.same;
      free = c.loop-n.invariant.free;
      kept = c.loop-n.invariant.kept;
      quiet = c.loop-n.invariant.quiet;
      none = none_again g.F.PageFile.scheme (g.F.PageFile.told c.read_checked.new.file) c.children-children.result.now
          c.args.number c.args.rect.now c.loop-n.n c.turn-turn.result c.tried-at.result c.args.child.now
          c.tried-at.ensures
          (omega (arith, c.if-at-children.false)) again c.loop-n.invariant.turned c.loop-n.invariant.none;
      turned = λ some. turned_again g.F.PageFile.scheme (g.F.PageFile.told c.read_checked.new.file)
          c.children-children.result.now c.args.number c.args.rect.now c.loop-n.n c.turn-turn.result c.tried-at.result
          again c.loop-n.invariant.turned;
      tried = tried_still g.F.PageFile.scheme (g.F.PageFile.told c.read_checked.new.file) c.children-children.result.now
          c.turn-turn.result c.loop-n.n (g.F.PageFile.reads c.read_checked.new.file)
          (g.F.PageFile.reads c.loop-n.pager.file)
          c.loop-n.invariant.tried;
    }

pub returns-in_err-read_checked-clause-twice : goal.returns-in_err-read_checked-clause-twice
returns-in_err-read_checked-clause-twice g t c =
    twice_looked g.F.PageFile.scheme (g.F.PageFile.told c.args.pager.now.file) c.args.pager.now.free
    c.args.child.now c.args.number c.args.rect.now (g.F.PageFile.reads c.args.pager.now.file)
    (g.F.PageFile.reads c.read_checked.new.file) (omega (arith, c.read_checked.ensures.reads))

pub returns-in_err-records-clause-twice : goal.returns-in_err-records-clause-twice
returns-in_err-records-clause-twice g t c =
    twice_looked g.F.PageFile.scheme (g.F.PageFile.told c.args.pager.now.file) c.args.pager.now.free
    c.args.child.now c.args.number c.args.rect.now (g.F.PageFile.reads c.args.pager.now.file)
    (g.F.PageFile.reads c.read_checked.new.file) (omega (arith, c.read_checked.ensures.reads))

pub returns-then-at-len-clause-twice : goal.returns-then-at-len-clause-twice
returns-then-at-len-clause-twice g t c =
    twice_looked g.F.PageFile.scheme (g.F.PageFile.told c.args.pager.now.file) c.args.pager.now.free
    c.args.child.now c.args.number c.args.rect.now (g.F.PageFile.reads c.args.pager.now.file)
    (g.F.PageFile.reads c.read_checked.new.file) (omega (arith, c.read_checked.ensures.reads))

pub returns-in_err-leave_records-clause-twice : goal.returns-in_err-leave_records-clause-twice
returns-in_err-leave_records-clause-twice g t c =
    twice_looked g.F.PageFile.scheme (g.F.PageFile.told c.args.pager.now.file) c.args.pager.now.free
    c.args.child.now c.args.number c.args.rect.now (g.F.PageFile.reads c.args.pager.now.file)
    (g.F.PageFile.reads c.leave_records.new.pager.file)
    (omega (arith, c.read_checked.ensures.reads, c.leave_records.ensures.reads))

pub returns-in_ok-leave_records-clause-twice : goal.returns-in_ok-leave_records-clause-twice
returns-in_ok-leave_records-clause-twice g t c =
    twice_looked g.F.PageFile.scheme (g.F.PageFile.told c.args.pager.now.file) c.args.pager.now.free
    c.args.child.now c.args.number c.args.rect.now (g.F.PageFile.reads c.args.pager.now.file)
    (g.F.PageFile.reads c.leave_records.new.pager.file)
    (omega (arith, c.read_checked.ensures.reads, c.leave_records.ensures.reads))

pub returns-then-at-len-clause-takes : goal.returns-then-at-len-clause-takes
returns-then-at-len-clause-takes g t c =
    once_looked g.F.PageFile.scheme (g.F.PageFile.told c.args.pager.now.file) c.args.child.now
    (g.F.PageFile.reads c.args.pager.now.file) (g.F.PageFile.reads c.read_checked.new.file) c.read_checked.ensures.reads

pub returns-in_ok-leave_records-clause-takes : goal.returns-in_ok-leave_records-clause-takes
returns-in_ok-leave_records-clause-takes g t c =
    let rs = c.in_ok-records.records.items in
    let view = c.read_checked.new.into in
    let same : rs ≡ records_in view = c.in_ok-records.ensures.items ∙ c.records.ensures.value in
    let is = c.records.ensures.leaf (sym c.level-level.ensures.value ∙ c.if-level-eq0.true) ∙ ap node.Leaf (sym same) in
    let reads = subst (λ n. IfSome (g.F.PageFile.told c.args.pager.now.file)
    (λ b. HasNode b c.args.child.now.id (page_node n))) is c.in_ok-read_checked.ensures.node in
    takes_leaf g.F.PageFile.scheme c.args.root (g.F.PageFile.told c.args.pager.now.file) c.args.pager.now.free
    c.args.child.now c.args.number c.args.rect.now rs c.in_ok-leave_records.field-0
    (g.F.PageFile.reads c.args.pager.now.file) (g.F.PageFile.reads c.leave_records.new.pager.file) reads
    (omega (arith, c.read_checked.ensures.reads, c.leave_records.ensures.reads))

pub returns-in_err-found-clause-twice : goal.returns-in_err-found-clause-twice
returns-in_err-found-clause-twice g t c =
    let view = c.read_checked.new.into in
    let cs = c.children-children.result.now in
    let high : 0 < c.level-level.result = omega (arith, c.if-level-eq0.false) in
    let is = c.children-children.ensures.inner (subst (λ n. 0 < n) c.level-level.ensures.value high)
    ∙ ap node.Inner (sym c.children-children.ensures.value) in
    let reads = subst (λ n. IfSome (g.F.PageFile.told c.args.pager.now.file)
    (λ b. HasNode b c.args.child.now.id (page_node n))) is c.in_ok-read_checked.ensures.node in
    let tried = subst (λ o. TriedOnce g.F.PageFile.scheme o cs c.turn-turn.result c.loop-n.n
    (g.F.PageFile.reads c.read_checked.new.file) (g.F.PageFile.reads c.loop-n.pager.file))
    c.in_ok-read_checked.ensures.same
    c.loop-n.invariant.tried in
    let d = c.index-children-at-in-loop-n.result in
    let back = c.loop-n.invariant.same ∙ c.in_ok-read_checked.ensures.same in
    twice_below g.F.PageFile.scheme (g.F.PageFile.told c.args.pager.now.file)
    (g.F.PageFile.told c.loop-n.pager.file) c.args.pager.now.free c.loop-n.pager.free c.args.child.now c.args.number
    c.args.rect.now c.tried-at.result c.turn-turn.result c.loop-n.n cs d (g.F.PageFile.reads c.args.pager.now.file)
    (g.F.PageFile.reads c.read_checked.new.file) (g.F.PageFile.reads c.loop-n.pager.file)
    (g.F.PageFile.reads c.take_out.new.pager.file) back c.loop-n.invariant.free reads
    (omega (arith, c.if-at-children.false)) c.index-children-at-in-loop-n.is c.tried-at.ensures
    (new_try c.loop-n.n c.turn-turn.result c.tried-at.result (sym c.is_again.ensures ∙ c.if-is_again.false))
    c.read_checked.ensures.reads tried c.take_out.ensures.twice

pub returns-in_err-rest-clause-twice : goal.returns-in_err-rest-clause-twice
returns-in_err-rest-clause-twice g t c =
    let view = c.read_checked.new.into in
    let cs = c.children-children.result.now in
    let high : 0 < c.level-level.result = omega (arith, c.if-level-eq0.false) in
    let is = c.children-children.ensures.inner (subst (λ n. 0 < n) c.level-level.ensures.value high)
    ∙ ap node.Inner (sym c.children-children.ensures.value) in
    let reads = subst (λ n. IfSome (g.F.PageFile.told c.args.pager.now.file)
    (λ b. HasNode b c.args.child.now.id (page_node n))) is c.in_ok-read_checked.ensures.node in
    let tried = subst (λ o. TriedOnce g.F.PageFile.scheme o cs c.turn-turn.result c.loop-n.n
    (g.F.PageFile.reads c.read_checked.new.file) (g.F.PageFile.reads c.loop-n.pager.file))
    c.in_ok-read_checked.ensures.same
    c.loop-n.invariant.tried in
    let d = c.index-children-at-in-loop-n.result in
    let back = c.loop-n.invariant.same ∙ c.in_ok-read_checked.ensures.same in
    let l = c.in-Some.left in
    let removes = subst (SearchesSubtree g.F.PageFile.scheme false (g.F.PageFile.told c.loop-n.pager.file)
    c.loop-n.pager.free (g.F.PageFile.told c.take_out.new.pager.file) c.take_out.new.pager.free d c.args.number
    c.args.rect.now) c.in-Some.is c.in_ok-found.ensures.searches in
    let took = subst (TakesTwice g.F.PageFile.scheme false (g.F.PageFile.told c.loop-n.pager.file)
    c.loop-n.pager.free d c.args.number c.args.rect.now (g.F.PageFile.reads c.loop-n.pager.file)
    (g.F.PageFile.reads c.take_out.new.pager.file)) c.in-Some.is c.in_ok-found.ensures.takes in
    twice_left g.F.PageFile.scheme (g.F.PageFile.told c.args.pager.now.file)
    (g.F.PageFile.told c.loop-n.pager.file) c.args.pager.now.free c.loop-n.pager.free c.args.child.now c.args.number
    c.args.rect.now c.tried-at.result c.turn-turn.result c.loop-n.n cs d (g.F.PageFile.reads c.args.pager.now.file)
    (g.F.PageFile.reads c.read_checked.new.file) (g.F.PageFile.reads c.loop-n.pager.file)
    (g.F.PageFile.reads c.take_out.new.pager.file) back c.loop-n.invariant.free reads
    (omega (arith, c.if-at-children.false)) c.index-children-at-in-loop-n.is c.tried-at.ensures
    (new_try c.loop-n.n c.turn-turn.result c.tried-at.result (sym c.is_again.ensures ∙ c.if-is_again.false))
    c.read_checked.ensures.reads tried (g.F.PageFile.told c.take_out.new.pager.file)
    (g.F.PageFile.told c.take_out.new.pager.file) c.take_out.new.pager.free c.take_out.new.pager.free l
    (g.F.PageFile.reads c.take_out.new.pager.file) removes took
    (beside_none g.F.PageFile.scheme (g.F.PageFile.told c.take_out.new.pager.file) c.take_out.new.pager.free
    c.args.child.now.id
    (take c.tried-at.result cs ++ (option_to_list l.entry ++ drop (suc c.tried-at.result) cs))
    (g.F.PageFile.reads c.take_out.new.pager.file) (g.F.PageFile.reads c.take_out.new.pager.file) refl)

pub returns-in_err-left-clause-twice : goal.returns-in_err-left-clause-twice
returns-in_err-left-clause-twice g t c =
    let view = c.read_checked.new.into in
    let cs = c.children-children.result.now in
    let high : 0 < c.level-level.result = omega (arith, c.if-level-eq0.false) in
    let is = c.children-children.ensures.inner (subst (λ n. 0 < n) c.level-level.ensures.value high)
    ∙ ap node.Inner (sym c.children-children.ensures.value) in
    let reads = subst (λ n. IfSome (g.F.PageFile.told c.args.pager.now.file)
    (λ b. HasNode b c.args.child.now.id (page_node n))) is c.in_ok-read_checked.ensures.node in
    let tried = subst (λ o. TriedOnce g.F.PageFile.scheme o cs c.turn-turn.result c.loop-n.n
    (g.F.PageFile.reads c.read_checked.new.file) (g.F.PageFile.reads c.loop-n.pager.file))
    c.in_ok-read_checked.ensures.same
    c.loop-n.invariant.tried in
    let d = c.index-children-at-in-loop-n.result in
    let back = c.loop-n.invariant.same ∙ c.in_ok-read_checked.ensures.same in
    let l = c.in-Some.left in
    let removes = subst (SearchesSubtree g.F.PageFile.scheme false (g.F.PageFile.told c.loop-n.pager.file)
    c.loop-n.pager.free (g.F.PageFile.told c.take_out.new.pager.file) c.take_out.new.pager.free d c.args.number
    c.args.rect.now) c.in-Some.is c.in_ok-found.ensures.searches in
    let took = subst (TakesTwice g.F.PageFile.scheme false (g.F.PageFile.told c.loop-n.pager.file)
    c.loop-n.pager.free d c.args.number c.args.rect.now (g.F.PageFile.reads c.loop-n.pager.file)
    (g.F.PageFile.reads c.take_out.new.pager.file)) c.in-Some.is c.in_ok-found.ensures.takes in
    let leaves = subst (λ us. LeavesOnce g.F.PageFile.scheme (g.F.PageFile.told c.take_out.new.pager.file)
    c.take_out.new.pager.free c.args.child.now.id us (g.F.PageFile.reads c.take_out.new.pager.file)
    (g.F.PageFile.reads c.leave.new.pager.file)) (c.deref-in-loop-n.ensures.value ∙ c.in_ok-rest.ensures)
    c.leave.ensures.reads_at_most in
    twice_left g.F.PageFile.scheme (g.F.PageFile.told c.args.pager.now.file)
    (g.F.PageFile.told c.loop-n.pager.file) c.args.pager.now.free c.loop-n.pager.free c.args.child.now c.args.number
    c.args.rect.now c.tried-at.result c.turn-turn.result c.loop-n.n cs d (g.F.PageFile.reads c.args.pager.now.file)
    (g.F.PageFile.reads c.read_checked.new.file) (g.F.PageFile.reads c.loop-n.pager.file)
    (g.F.PageFile.reads c.take_out.new.pager.file) back c.loop-n.invariant.free reads
    (omega (arith, c.if-at-children.false)) c.index-children-at-in-loop-n.is c.tried-at.ensures
    (new_try c.loop-n.n c.turn-turn.result c.tried-at.result (sym c.is_again.ensures ∙ c.if-is_again.false))
    c.read_checked.ensures.reads tried (g.F.PageFile.told c.take_out.new.pager.file)
    (g.F.PageFile.told c.leave.new.pager.file) c.take_out.new.pager.free c.leave.new.pager.free l
    (g.F.PageFile.reads c.leave.new.pager.file) removes took leaves

pub returns-in-loop-n-clause-twice : goal.returns-in-loop-n-clause-twice
returns-in-loop-n-clause-twice g t c =
    let view = c.read_checked.new.into in
    let cs = c.children-children.result.now in
    let high : 0 < c.level-level.result = omega (arith, c.if-level-eq0.false) in
    let is = c.children-children.ensures.inner (subst (λ n. 0 < n) c.level-level.ensures.value high)
    ∙ ap node.Inner (sym c.children-children.ensures.value) in
    let reads = subst (λ n. IfSome (g.F.PageFile.told c.args.pager.now.file)
    (λ b. HasNode b c.args.child.now.id (page_node n))) is c.in_ok-read_checked.ensures.node in
    let tried = subst (λ o. TriedOnce g.F.PageFile.scheme o cs c.turn-turn.result c.loop-n.n
    (g.F.PageFile.reads c.read_checked.new.file) (g.F.PageFile.reads c.loop-n.pager.file))
    c.in_ok-read_checked.ensures.same
    c.loop-n.invariant.tried in
    let d = c.index-children-at-in-loop-n.result in
    let back = c.loop-n.invariant.same ∙ c.in_ok-read_checked.ensures.same in
    let l = c.in-Some.left in
    let removes = subst (SearchesSubtree g.F.PageFile.scheme false (g.F.PageFile.told c.loop-n.pager.file)
    c.loop-n.pager.free (g.F.PageFile.told c.take_out.new.pager.file) c.take_out.new.pager.free d c.args.number
    c.args.rect.now) c.in-Some.is c.in_ok-found.ensures.searches in
    let took = subst (TakesTwice g.F.PageFile.scheme false (g.F.PageFile.told c.loop-n.pager.file)
    c.loop-n.pager.free d c.args.number c.args.rect.now (g.F.PageFile.reads c.loop-n.pager.file)
    (g.F.PageFile.reads c.take_out.new.pager.file)) c.in-Some.is c.in_ok-found.ensures.takes in
    let leaves = subst (λ us. LeavesOnce g.F.PageFile.scheme (g.F.PageFile.told c.take_out.new.pager.file)
    c.take_out.new.pager.free c.args.child.now.id us (g.F.PageFile.reads c.take_out.new.pager.file)
    (g.F.PageFile.reads c.leave.new.pager.file)) (c.deref-in-loop-n.ensures.value ∙ c.in_ok-rest.ensures)
    c.leave.ensures.reads_at_most in
    twice_left g.F.PageFile.scheme (g.F.PageFile.told c.args.pager.now.file)
    (g.F.PageFile.told c.loop-n.pager.file) c.args.pager.now.free c.loop-n.pager.free c.args.child.now c.args.number
    c.args.rect.now c.tried-at.result c.turn-turn.result c.loop-n.n cs d (g.F.PageFile.reads c.args.pager.now.file)
    (g.F.PageFile.reads c.read_checked.new.file) (g.F.PageFile.reads c.loop-n.pager.file)
    (g.F.PageFile.reads c.take_out.new.pager.file) back c.loop-n.invariant.free reads
    (omega (arith, c.if-at-children.false)) c.index-children-at-in-loop-n.is c.tried-at.ensures
    (new_try c.loop-n.n c.turn-turn.result c.tried-at.result (sym c.is_again.ensures ∙ c.if-is_again.false))
    c.read_checked.ensures.reads tried (g.F.PageFile.told c.take_out.new.pager.file)
    (g.F.PageFile.told c.leave.new.pager.file) c.take_out.new.pager.free c.leave.new.pager.free l
    (g.F.PageFile.reads c.leave.new.pager.file) removes took leaves

pub returns-in-loop-n-clause-takes : goal.returns-in-loop-n-clause-takes
returns-in-loop-n-clause-takes g t c =
    let view = c.read_checked.new.into in
    let cs = c.children-children.result.now in
    let high : 0 < c.level-level.result = omega (arith, c.if-level-eq0.false) in
    let is = c.children-children.ensures.inner (subst (λ n. 0 < n) c.level-level.ensures.value high)
    ∙ ap node.Inner (sym c.children-children.ensures.value) in
    let reads = subst (λ n. IfSome (g.F.PageFile.told c.args.pager.now.file)
    (λ b. HasNode b c.args.child.now.id (page_node n))) is c.in_ok-read_checked.ensures.node in
    let tried = subst (λ o. TriedOnce g.F.PageFile.scheme o cs c.turn-turn.result c.loop-n.n
    (g.F.PageFile.reads c.read_checked.new.file) (g.F.PageFile.reads c.loop-n.pager.file))
    c.in_ok-read_checked.ensures.same
    c.loop-n.invariant.tried in
    let d = c.index-children-at-in-loop-n.result in
    let back = c.loop-n.invariant.same ∙ c.in_ok-read_checked.ensures.same in
    let l = c.in-Some.left in
    let removes = subst (SearchesSubtree g.F.PageFile.scheme false (g.F.PageFile.told c.loop-n.pager.file)
    c.loop-n.pager.free (g.F.PageFile.told c.take_out.new.pager.file) c.take_out.new.pager.free d c.args.number
    c.args.rect.now) c.in-Some.is c.in_ok-found.ensures.searches in
    let took = subst (TakesTwice g.F.PageFile.scheme false (g.F.PageFile.told c.loop-n.pager.file)
    c.loop-n.pager.free d c.args.number c.args.rect.now (g.F.PageFile.reads c.loop-n.pager.file)
    (g.F.PageFile.reads c.take_out.new.pager.file)) c.in-Some.is c.in_ok-found.ensures.takes in
    let leaves = subst (λ us. LeavesOnce g.F.PageFile.scheme (g.F.PageFile.told c.take_out.new.pager.file)
    c.take_out.new.pager.free c.args.child.now.id us (g.F.PageFile.reads c.take_out.new.pager.file)
    (g.F.PageFile.reads c.leave.new.pager.file)) (c.deref-in-loop-n.ensures.value ∙ c.in_ok-rest.ensures)
    c.leave.ensures.reads_at_most in
    let out = c.in_ok-left.left in
    takes_below g.F.PageFile.scheme (g.F.PageFile.told c.args.pager.now.file)
    (g.F.PageFile.told c.loop-n.pager.file) c.args.pager.now.free c.loop-n.pager.free c.args.child.now c.args.number
    c.args.rect.now c.tried-at.result c.turn-turn.result c.loop-n.n cs d (g.F.PageFile.reads c.args.pager.now.file)
    (g.F.PageFile.reads c.read_checked.new.file) (g.F.PageFile.reads c.loop-n.pager.file)
    (g.F.PageFile.reads c.take_out.new.pager.file) back c.loop-n.invariant.free reads
    (omega (arith, c.if-at-children.false)) c.index-children-at-in-loop-n.is c.tried-at.ensures
    (new_try c.loop-n.n c.turn-turn.result c.tried-at.result (sym c.is_again.ensures ∙ c.if-is_again.false))
    c.read_checked.ensures.reads tried (g.F.PageFile.told c.take_out.new.pager.file)
    (g.F.PageFile.told c.leave.new.pager.file) c.take_out.new.pager.free c.leave.new.pager.free l
    (g.F.PageFile.reads c.leave.new.pager.file) removes took leaves c.args.root out
    (subst (λ us. LeavesInner g.F.PageFile.scheme c.args.root (g.F.PageFile.told c.take_out.new.pager.file)
    c.take_out.new.pager.free (g.F.PageFile.told c.leave.new.pager.file) c.leave.new.pager.free c.args.child.now.id us
    l.aside.items (option_to_list out.entry) out.aside.items)
    (c.deref-in-loop-n.ensures.value ∙ c.in_ok-rest.ensures) c.in_ok-left.ensures.leaves) c.in_ok-left.ensures.still

pub returns-after-loop-n-clause-takes : goal.returns-after-loop-n-clause-takes
returns-after-loop-n-clause-takes g t c =
    let view = c.read_checked.new.into in
    let cs = c.children-children.result.now in
    let high : 0 < c.level-level.result = omega (arith, c.if-level-eq0.false) in
    let is = c.children-children.ensures.inner (subst (λ n. 0 < n) c.level-level.ensures.value high)
    ∙ ap node.Inner (sym c.children-children.ensures.value) in
    let reads = subst (λ n. IfSome (g.F.PageFile.told c.args.pager.now.file)
    (λ b. HasNode b c.args.child.now.id (page_node n))) is c.in_ok-read_checked.ensures.node in
    let tried = subst (λ o. TriedOnce g.F.PageFile.scheme o cs c.turn-turn.result c.loop-n.n
    (g.F.PageFile.reads c.read_checked.new.file) (g.F.PageFile.reads c.loop-n.pager.file))
    c.in_ok-read_checked.ensures.same
    c.loop-n.invariant.tried in
    once_searched g.F.PageFile.scheme (g.F.PageFile.told c.args.pager.now.file) c.args.child.now cs
    c.turn-turn.result c.loop-n.n (g.F.PageFile.reads c.args.pager.now.file)
    (g.F.PageFile.reads c.read_checked.new.file)
    (g.F.PageFile.reads c.loop-n.pager.file) reads c.read_checked.ensures.reads tried

pub returns-after-loop-n-clause-twice : goal.returns-after-loop-n-clause-twice
returns-after-loop-n-clause-twice g t c =
    let view = c.read_checked.new.into in
    let cs = c.children-children.result.now in
    let high : 0 < c.level-level.result = omega (arith, c.if-level-eq0.false) in
    let is = c.children-children.ensures.inner (subst (λ n. 0 < n) c.level-level.ensures.value high)
    ∙ ap node.Inner (sym c.children-children.ensures.value) in
    let reads = subst (λ n. IfSome (g.F.PageFile.told c.args.pager.now.file)
    (λ b. HasNode b c.args.child.now.id (page_node n))) is c.in_ok-read_checked.ensures.node in
    let tried = subst (λ o. TriedOnce g.F.PageFile.scheme o cs c.turn-turn.result c.loop-n.n
    (g.F.PageFile.reads c.read_checked.new.file) (g.F.PageFile.reads c.loop-n.pager.file))
    c.in_ok-read_checked.ensures.same
    c.loop-n.invariant.tried in
    once_twice g.F.PageFile.scheme (g.F.PageFile.told c.args.pager.now.file) c.args.pager.now.free
    c.args.child.now c.args.number c.args.rect.now (g.F.PageFile.reads c.args.pager.now.file)
    (g.F.PageFile.reads c.loop-n.pager.file)
    (once_searched g.F.PageFile.scheme (g.F.PageFile.told c.args.pager.now.file) c.args.child.now cs
    c.turn-turn.result c.loop-n.n (g.F.PageFile.reads c.args.pager.now.file)
    (g.F.PageFile.reads c.read_checked.new.file)
    (g.F.PageFile.reads c.loop-n.pager.file) reads c.read_checked.ensures.reads tried)
