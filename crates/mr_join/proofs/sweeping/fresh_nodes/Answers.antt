use Rattle.std.proofs.Common.{◌∙◌, ap, map, subst, sym}
use Rattle.std.specs.List.{AllByRecursion}
use Rattle.mr_join.specs.private.Sweeping.{IsFresh, own_entry}
use Rattle.mr_join.proofs.Sweeps.{fresh_more, entries_more}
use Rattle.mr_join.proofs.sweeping.fresh_nodes.Goals as goal

pub loop-entry-preserved : goal.loop-entry-preserved
loop-entry-preserved c =
    let ns = c.loop-entry.nodes.items in
    let so = c.loop-entry.invariant in
    record {
      entries = ap (map own_entry) c.in_ok-push.ensures.items
          ∙ entries_more c.loop-entry.entry-index c.args.entries.now c.entry-item.result ns c.of.result
          c.loop-entry-test.true c.entry-item.is so.entries c.of.ensures.entry;
      fresh = subst (AllByRecursion IsFresh) (sym c.in_ok-push.ensures.items)
          (fresh_more ns c.of.result so.fresh c.of.ensures.fresh);
    }
