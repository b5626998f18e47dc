use Rattle.std.proofs.Common.{◌≡◌, ℕ, map, take, get_or}
use Rattle.std.specs.List.{range_with_len}
use Rattle.mr_record.specs.declared.record.Record.{Record}
use Rattle.mr_pack.specs.Pack.{placed_record}
use Rattle.mr_pack.specs.private.Views.{with_item}
use Rattle.mr_pack.specs.declared.placed.Placed.{Placed}
use Rattle.mr_pack.proofs.level.record_entries.Given as goal

abbrev pub invariant-loop-record : goal.invariant-loop-record
invariant-loop-record l = record {
  numbers : map (λ (e : Placed ℕ). e.item) l.entries.items ≡ range_with_len 0 l.record-index;
  placed : (d : Record) → map (with_item (λ i. get_or l.records i d)) l.entries.items
      ≡ map placed_record (take l.record-index l.records);
}
