use Rattle.std.proofs.Common.{◌≡◌, ◌-◌, ◌++◌, false, length, get_or}
use Rattle.std.specs.List.{filter, range_with_len}
use Rattle.mr_split.specs.Split.{is_on, group}
use Rattle.mr_split.proofs.groups.positions_on.Given as goal

abbrev pub invariant-loop-at : goal.invariant-loop-at
invariant-loop-at l =
    l.group.items ++ filter (λ n. is_on l.side (get_or l.sides n false)) (range_with_len l.at (length l.sides - l.at))
    ≡ group l.sides l.side
