use Rattle.std.proofs.Common.{◌≡◌, ◌≤◌, ◌<◌, ◌++◌, ℕ, length, map, take, get_or}
use Rattle.std.specs.List.{flat_map}
use Rattle.mr_join.specs.declared.entry.Entry.{Entry}
use Rattle.mr_join.specs.private.Sweeping.{IsTree, own_entry, found_for}
use Rattle.mr_join.proofs.sweeping.search_all.Given as goal

-- of the first ones; for each that is still to come the nodes are a tree
abbrev pub invariant-loop-entry : goal.invariant-loop-entry
invariant-loop-entry l = record {
  found : l.pairs.items ≡ l.initial.pairs.items
      ++ flat_map (found_for l.turned (map own_entry l.initial.nodes)) (take l.entry-index l.entries);
  entries : map own_entry l.nodes ≡ map own_entry l.initial.nodes;
  tree : (k : ℕ) (d : Entry) → l.entry-index ≤ k → k < length l.entries
      → IsTree (get_or l.entries k d).rect.x0 l.nodes;
}
