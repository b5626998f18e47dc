use Rattle.std.proofs.Common.{◌≡◌, ◌+◌, ◌*◌, ◌≤◌, ◌++◌, take}
use Rattle.std.specs.List.{flat_map}
use Rattle.mr_record.specs.Record.{record_bytes}
use Rattle.mr_pages.proofs.page.node.put_records.Given as goal

abbrev pub invariant-loop-record : goal.invariant-loop-record
invariant-loop-record l = record {
  place : l.place ≤ l.at + 226 * l.record-index;
  bytes : take l.place l.page ≡ take l.at l.fn.page ++ flat_map (record_bytes l.version)
      (take l.record-index l.records);
}
