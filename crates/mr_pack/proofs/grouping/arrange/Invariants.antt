use Rattle.std.proofs.Common.{◌≡◌, ◌++◌, drop}
use Rattle.std.specs.List.{flat_map}
use Rattle.mr_pack.specs.Cuts.{parts, slice_start}
use Rattle.mr_pack.specs.Entries.{is_left, is_below}
use Rattle.mr_record.specs.Sorting.{sorted_by}
use Rattle.mr_pack.proofs.grouping.arrange.Given as goal

-- the slices so far are in order, and the rest is as it was sorted first
abbrev pub invariant-loop-slice : goal.invariant-loop-slice
invariant-loop-slice g l = record {
  so_far : l.entries ≡ flat_map (sorted_by is_below)
      (parts (slice_start l.count l.groups l.slices) l.slice (sorted_by is_left l.fn.entries))
      ++ drop (slice_start l.count l.groups l.slices l.slice) (sorted_by is_left l.fn.entries);
}
