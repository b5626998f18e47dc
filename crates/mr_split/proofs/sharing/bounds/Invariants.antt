use Rattle.std.proofs.Common.{◌≡◌, ◌-◌, map, length}
use Rattle.std.specs.Prelude.{fold}
use Rattle.std.specs.List.{range_with_len}
use Rattle.mr_geom.specs.Rectangle.{join}
use Rattle.mr_split.specs.Split.{member, bounds}
use Rattle.mr_split.proofs.sharing.bounds.Given as goal

abbrev pub invariant-loop-at : goal.invariant-loop-at
invariant-loop-at l =
    fold join l.all (map (member l.list l.marks l.group) (range_with_len l.at (length l.list - l.at))) ≡ bounds l.list
    l.marks l.group
