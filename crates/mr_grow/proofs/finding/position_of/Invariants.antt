use Rattle.std.proofs.Common.{◌≡◌, ◌+◌, drop}
use Rattle.mr_grow.specs.Found.{is_numbered, place_of}
use Rattle.mr_grow.proofs.finding.position_of.Given as goal

abbrev pub invariant-loop-record : goal.invariant-loop-record
invariant-loop-record l = record {
  count : l.at ≡ l.record-index;
  rest : l.at + place_of (is_numbered l.number) (drop l.record-index l.records) ≡ place_of (is_numbered l.number)
      l.records;
}
