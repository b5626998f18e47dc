use Rattle.std.proofs.Common.{◌∙◌, arith, map, ◌≤◌}
use Rattle.mr_join.specs.private.Sweeping.{own_entry}
use Rattle.mr_join.proofs.Sweeps.{query_tree, found_more, tree_more}
use Rattle.mr_join.proofs.sweeping.search_all.Goals as goal

pub search-requires : goal.search-requires
search-requires c =
    let i = c.loop-entry.entry-index in
    let e = c.entry-item.result in
    let here : i ≤ i = omega arith in
    query_tree c.args.turned c.of.result i c.args.entries.now e c.loop-entry.nodes c.of.ensures c.entry-item.is
    (c.loop-entry.invariant.tree i e here c.loop-entry-test.true)

pub loop-entry-preserved : goal.loop-entry-preserved
loop-entry-preserved c =
    let i = c.loop-entry.entry-index in
    let e = c.entry-item.result in
    let so = c.loop-entry.invariant in
    let step = c.in_ok-search.ensures in
    record {
      found = found_more c.args.turned c.of.result i c.args.entries.now e (map own_entry c.args.nodes.now)
          (map own_entry c.loop-entry.nodes) c.args.pairs.now.items c.loop-entry.pairs.items c.search.new.pairs.items
          c.of.ensures c.entry-item.is c.loop-entry-test.true so.entries so.found step.found;
      entries = step.entries ∙ so.entries;
      tree = tree_more c.args.turned c.of.result i c.args.entries.now e c.search.new.nodes c.requires.rises
          c.of.ensures c.entry-item.is c.loop-entry-test.true step.tree;
    }
