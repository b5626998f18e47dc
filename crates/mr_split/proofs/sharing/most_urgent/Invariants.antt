use Rattle.std.proofs.Common.{◌≡◌, ◌-◌, ◌<◌, length}
use Rattle.std.specs.List.{fold, range_with_len}
use Rattle.mr_split.specs.Best.{better}
use Rattle.mr_split.specs.Choice.{rect_at}
use Rattle.mr_split.specs.Split.{is_more_urgent, urgency, mark_at}
use Rattle.mr_split.proofs.sharing.most_urgent.Given as goal

-- the best so far and the positions that are left have the best of all
abbrev pub invariant-loop-i : goal.invariant-loop-i
invariant-loop-i l = record {
  within : l.at < length l.list;
  most : l.most ≡ urgency l.first l.second (mark_at l.marks l.at) (rect_at l.list l.at);
  rest : fold (better (is_more_urgent l.list l.marks l.first l.second)) l.at
      (range_with_len l.i (length l.list - l.i))
      ≡ fold (better (is_more_urgent l.list l.marks l.first l.second)) 0 (range_with_len 1 (length l.list - 1));
}
