use Rattle.std.proofs.Common.{◌≡◌, ◌++◌, map, reverse, take}
use Rattle.std.specs.Global.{Vec}
use Rattle.mr_pack.specs.Cuts.{parts, group_start}
use Rattle.mr_pack.proofs.grouping.cut.Given as goal

-- the groups from here on are cut off, the last one first
abbrev pub invariant-loop-group : goal.invariant-loop-group
invariant-loop-group g l = record {
  left : l.items.items ≡ take (group_start l.count l.groups l.group) l.fn.items.items;
  done : parts (group_start l.count l.groups) l.groups l.fn.items.items
      ≡ parts (group_start l.count l.groups) l.group l.fn.items.items ++ reverse
      (map (λ (v : Vec g.row.T.Denot). v.items) l.cut.items);
}
