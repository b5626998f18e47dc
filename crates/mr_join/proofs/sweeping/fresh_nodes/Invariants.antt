use Rattle.std.proofs.Common.{◌≡◌, map, take}
use Rattle.std.specs.List.{AllByRecursion}
use Rattle.mr_join.specs.private.Sweeping.{IsFresh, own_entry}
use Rattle.mr_join.proofs.sweeping.fresh_nodes.Given as goal

-- of the first ones
abbrev pub invariant-loop-entry : goal.invariant-loop-entry
invariant-loop-entry l = record {
  entries : map own_entry l.nodes.items ≡ take l.entry-index l.entries;
  fresh : AllByRecursion IsFresh l.nodes.items;
}
