use Rattle.std.proofs.Common.{◌+◌, subst, sym, ◌∙◌}
use Rattle.std.specs.BTreeMap.{get}
use Rattle.std.specs.Ordering.{nat_cmp}
use Rattle.mr_batch.specs.Changes.{numbers}
use Rattle.mr_batch.specs.Earlier.{IsLastBelow}
use Rattle.mr_batch.proofs.Linking.{AreLinks, AreLinks-push, IsLastBelow-after, number_at, is_elsewhere}
use Rattle.mr_batch.proofs.links.links.Goals as goal

pub loop-i-preserved : goal.loop-i-preserved
loop-i-preserved c =
    let changes = c.args.changes.now in
    let i = c.loop-i.i in
    let m = c.number.result in
    let here = number_at changes i c.index-changes-i.result c.loop-i-test.true c.index-changes-i.is
    ∙ sym c.number.ensures
    in
    let old = c.in_ok-last.ensures.old in
    let found = subst (IsLastBelow i m (numbers changes)) (sym old) (c.loop-i.invariant.places m) in
    record {
      so_far =
          subst (AreLinks changes (i + 1)) (sym c.in_ok-push.ensures.items)
          (AreLinks-push changes i c.loop-i.links.items c.in_ok-last.last c.loop-i.invariant.so_far
          (subst (λ n. IsLastBelow i n (numbers changes) c.in_ok-last.last) (sym here) found));
      places =
          IsLastBelow-after i m (numbers changes) (get nat_cmp c.loop-i.places) (get nat_cmp c.insert.new.self) here
          c.loop-i.invariant.places c.in_ok-last.ensures.updates.1
          (λ n ne. c.in_ok-last.ensures.updates.2 n (is_elsewhere m n ne));
    }
