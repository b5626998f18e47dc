use Rattle.std.proofs.Common.{◌≡◌, ◌++◌, take}
use Rattle.std.specs.List.{flat_map}
use Rattle.mr_record.specs.Record.{record_bytes}
use Rattle.mr_clash.specs.private.Steps.{left}
use Rattle.mr_clash.proofs.own.pass_own_records.Given as goal

-- the records so far stood there
abbrev pub invariant-loop-one : goal.invariant-loop-one
invariant-loop-one l =
    left l.initial.from ≡ flat_map (record_bytes l.version) (take l.one-index l.records) ++ left l.from
