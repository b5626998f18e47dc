use Rattle.std.proofs.Common.{◌≡◌, ◌+◌, ◌*◌, ◌≤◌, ◌++◌, length, take}
use Rattle.std.specs.List.{flat_map}
use Rattle.mr_record.specs.Record.{record_bytes}
use Rattle.mr_proof.proofs.write.put_records.Given as goal

abbrev pub invariant-loop-one : goal.invariant-loop-one
invariant-loop-one l = record {
  value : l.bytes ≡ l.initial.bytes ++ flat_map (record_bytes l.version) (take l.one-index l.records);
  short : length l.bytes ≤ length l.initial.bytes + 226 * l.one-index;
}
