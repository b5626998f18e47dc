use Rattle.std.proofs.Common.{◌≡◌, ◌<◌, ◌≤◌, ◌+◌, length, map, sym, ap, subst, ◌∙◌, arith}
use Rattle.std.specs.Prelude.{All}
use Rattle.std.proofs.lemmas.List.Elements.{All-from_recursion}
use Rattle.mr_tree.specs.declared.child.Child.{Child}
use Rattle.mr_tree.specs.declared.tree.Tree.TheOpen as node
use Rattle.mr_pages.specs.Walking.{child_link}
use Rattle.mr_grow.proofs.Cutting.{all_first, all_second}
use Rattle.mr_edit.specs.Held.{IsTold, HaveFew}
use Rattle.mr_edit.specs.Outcome.{WritesNode, CanPut}
use Rattle.mr_edit.proofs.Sound.{never, can_take, can_write, both_write, still_write, handed}
use Rattle.mr_edit.proofs.Levels.{first_below, second_below}
use Rattle.mr_edit.proofs.Splitting.{inner_whole, inner_split}
use Rattle.mr_edit.proofs.Sums.{first_few, second_few}
use Rattle.mr_edit.proofs.putting.put_inner.Goals as goal

pub write_inner-requires-clause-some : goal.write_inner-requires-clause-some
write_inner-requires-clause-some g c = omega (
  arith,
  c.in_ok-front.ensures.first_size.least_is,
  ap length c.deref.ensures.value,
)

pub write_inner-requires-clause-few : goal.write_inner-requires-clause-few
write_inner-requires-clause-few g c = omega (
  arith,
  c.in_ok-front.ensures.first_size.most_is,
  ap length c.deref.ensures.value,
)

pub write_inner-requires-then-len-clause-some : goal.write_inner-requires-then-len-clause-some
write_inner-requires-then-len-clause-some g c = omega (
  arith,
  c.in_ok-front.ensures.second_size.least_is,
  ap length c.deref-then-len.ensures.value,
)

pub write_inner-requires-then-len-clause-few : goal.write_inner-requires-then-len-clause-few
write_inner-requires-then-len-clause-few g c = omega (
  arith,
  c.in_ok-front.ensures.second_size.most_is,
  ap length c.deref-then-len.ensures.value,
)

pub write_inner-requires-clause-below : goal.write_inner-requires-clause-below
write_inner-requires-clause-below g c =
    let P = λ (x : Child). x.level + 1 ≡ c.args.level in
    subst (All P) (sym (c.deref.ensures.value ∙ c.in_ok-front.ensures.first_is))
    (All-from_recursion P _ (first_below c.args.level _ c.args.children.items c.requires.below))

pub write_inner-requires-then-len-clause-below : goal.write_inner-requires-then-len-clause-below
write_inner-requires-then-len-clause-below g c =
    let P = λ (x : Child). x.level + 1 ≡ c.args.level in
    subst (All P) (sym (c.deref-then-len.ensures.value ∙ c.in_ok-front.ensures.second_is))
    (All-from_recursion P _ (second_below c.args.level _ c.args.children.items c.requires.below))

pub write_inner-requires-clause-told : goal.write_inner-requires-clause-told
write_inner-requires-clause-told g c =
    subst (All (IsTold g.F.PageFile.scheme.version)) (sym (c.deref.ensures.value ∙ c.in_ok-front.ensures.first_is))
    (All-from_recursion (IsTold g.F.PageFile.scheme.version) _
    (all_first (IsTold g.F.PageFile.scheme.version) _ c.args.children.items c.requires.told))

pub write_inner-requires-then-len-clause-told : goal.write_inner-requires-then-len-clause-told
write_inner-requires-then-len-clause-told g c =
    subst (All (IsTold g.F.PageFile.scheme.version))
    (sym (c.deref-then-len.ensures.value ∙ c.in_ok-front.ensures.second_is))
    (All-from_recursion (IsTold g.F.PageFile.scheme.version) _
    (all_second (IsTold g.F.PageFile.scheme.version) _ c.args.children.items c.requires.told))

pub returns-in_ok-second-clause-puts : goal.returns-in_ok-second-clause-puts
returns-in_ok-second-clause-puts g c =
    let xs = c.args.children.items in
    let many : 64 < length xs = omega (arith, c.len.ensures, c.args.children.ok, c.if-len.true) in
    inner_split g.F.PageFile.scheme (g.F.PageFile.told c.args.pager.now.file)
    (g.F.PageFile.told c.take_page.new.pager.file) (g.F.PageFile.told c.write_inner.new.pager.file)
    (g.F.PageFile.told c.write_inner-then-len.new.pager.file) c.args.pager.now.free c.take_page.new.pager.free
    c.write_inner.new.pager.free c.write_inner-then-len.new.pager.free c.args.page c.in_ok-other.other
    xs c.in_ok-front.front.items c.in_ok-front.back.items c.in_ok-first.first c.in_ok-second.second many
    c.in_ok-front.ensures c.in_ok-other.ensures.takes
    (subst (λ us. WritesNode g.F.PageFile.scheme (g.F.PageFile.told c.take_page.new.pager.file)
    c.take_page.new.pager.free
    (g.F.PageFile.told c.write_inner.new.pager.file) c.write_inner.new.pager.free c.args.page
    (node.Inner (map child_link us)) c.in_ok-first.first) c.deref.ensures.value c.in_ok-first.ensures.writes)
    (subst (λ us. WritesNode g.F.PageFile.scheme (g.F.PageFile.told c.write_inner.new.pager.file)
    c.write_inner.new.pager.free (g.F.PageFile.told c.write_inner-then-len.new.pager.file)
    c.write_inner-then-len.new.pager.free c.in_ok-other.other (node.Inner (map child_link us)) c.in_ok-second.second)
    c.deref-then-len.ensures.value c.in_ok-second.ensures.writes)

pub returns-in_ok-first-2-clause-puts : goal.returns-in_ok-first-2-clause-puts
returns-in_ok-first-2-clause-puts g c =
    let xs = c.args.children.items in
    let few : length xs ≤ 64 = omega (arith, c.len.ensures, c.args.children.ok, c.if-len.false) in
    inner_whole g.F.PageFile.scheme (g.F.PageFile.told c.args.pager.now.file)
    (g.F.PageFile.told c.write_inner-else-len.new.pager.file) c.args.pager.now.free
    c.write_inner-else-len.new.pager.free c.args.page xs c.in_ok-first-2.first few
    (subst (λ us. WritesNode g.F.PageFile.scheme (g.F.PageFile.told c.args.pager.now.file) c.args.pager.now.free
    (g.F.PageFile.told c.write_inner-else-len.new.pager.file) c.write_inner-else-len.new.pager.free c.args.page
    (node.Inner (map child_link us)) c.in_ok-first-2.first) c.deref-else-len.ensures.value
    c.in_ok-first-2.ensures.writes)

pub returns-in_err-other-clause-blames_none_told : goal.returns-in_err-other-clause-blames_none_told
returns-in_err-other-clause-blames_none_told g c =
    handed c.from_residual-in_err-other.result c.in_err-other.field-0.0
    (CanPut (g.F.PageFile.told c.args.pager.now.file) c.args.pager.now.free c.args.page
    × HaveFew c.args.children.items)
    c.from_residual-in_err-other.ensures.1
    (never c.in_err-other.field-0.0 _ _ (λ k. can_take (g.F.PageFile.told c.args.pager.now.file) c.args.pager.now.free
    c.args.page k.0) c.in_err-other.ensures.blames_none_told)

pub returns-in_err-first-clause-blames_none_told : goal.returns-in_err-first-clause-blames_none_told
returns-in_err-first-clause-blames_none_told g c =
    handed c.from_residual-in_err-first.result c.in_err-first.field-0.0
    (CanPut (g.F.PageFile.told c.args.pager.now.file) c.args.pager.now.free c.args.page
    × HaveFew c.args.children.items)
    c.from_residual-in_err-first.ensures.1
    (never c.in_err-first.field-0.0 _ _
    (λ k. (
      (both_write (g.F.PageFile.told c.args.pager.now.file) (g.F.PageFile.told c.take_page.new.pager.file)
          c.args.pager.now.free c.take_page.new.pager.free c.args.page c.in_ok-other.other
          c.in_ok-other.ensures.takes k.0).0,
      first_few _ c.args.children.items c.deref.result.now
          (c.deref.ensures.value ∙ c.in_ok-front.ensures.first_is) k.1,
    ))
    c.in_err-first.ensures.blames_none_told)

pub returns-in_err-second-clause-blames_none_told : goal.returns-in_err-second-clause-blames_none_told
returns-in_err-second-clause-blames_none_told g c =
    handed c.from_residual-in_err-second.result c.in_err-second.field-0.0
    (CanPut (g.F.PageFile.told c.args.pager.now.file) c.args.pager.now.free c.args.page
    × HaveFew c.args.children.items)
    c.from_residual-in_err-second.ensures.1
    (never c.in_err-second.field-0.0 _ _
    (λ k. (
      still_write (g.F.PageFile.told c.take_page.new.pager.file) (g.F.PageFile.told c.write_inner.new.pager.file)
          c.args.page
          c.in_ok-other.other _ c.in_ok-first.ensures.writes.put
          (both_write (g.F.PageFile.told c.args.pager.now.file) (g.F.PageFile.told c.take_page.new.pager.file)
          c.args.pager.now.free c.take_page.new.pager.free c.args.page c.in_ok-other.other
          c.in_ok-other.ensures.takes k.0).1,
      second_few _ c.args.children.items c.deref-then-len.result.now
          (c.deref-then-len.ensures.value ∙ c.in_ok-front.ensures.second_is) k.1,
    ))
    c.in_err-second.ensures.blames_none_told)

pub returns-in_err-first-2-clause-blames_none_told : goal.returns-in_err-first-2-clause-blames_none_told
returns-in_err-first-2-clause-blames_none_told g c =
    handed c.from_residual-in_err-first-2.result c.in_err-first-2.field-0.0
    (CanPut (g.F.PageFile.told c.args.pager.now.file) c.args.pager.now.free c.args.page
    × HaveFew c.args.children.items)
    c.from_residual-in_err-first-2.ensures.1
    (never c.in_err-first-2.field-0.0 _ _ (λ k. (
      can_write (g.F.PageFile.told c.args.pager.now.file)
          c.args.pager.now.free c.args.page k.0,
      subst HaveFew (sym c.deref-else-len.ensures.value) k.1,
    ))
    c.in_err-first-2.ensures.blames_none_told)
