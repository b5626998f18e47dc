use Rattle.std.proofs.Common.{◌≡◌, ◌*◌, ◌≤◌, length, take}
use Rattle.std.specs.List.{flat_map}
use Rattle.mr_record.specs.Record.{record_bytes}
use Rattle.mr_pages.proofs.page.hashed.width_of.Given as goal

abbrev pub invariant-loop-one : goal.invariant-loop-one
invariant-loop-one l = record {
  value : l.all ≡ length (flat_map (record_bytes l.version) (take l.one-index l.records));
  bound : l.all ≤ 226 * l.one-index;
}
