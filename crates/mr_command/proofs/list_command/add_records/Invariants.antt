use Rattle.std.proofs.Common.{◌≡◌, ◌++◌, map, take}
use Rattle.mr_command.specs.private.Listing.{numbered_values, numbered}
use Rattle.mr_command.proofs.list_command.add_records.Given as goal

abbrev pub invariant-loop-record : goal.invariant-loop-record
invariant-loop-record l =
    map numbered_values l.entries.items ≡ map numbered_values l.fn.entries.items ++ map numbered
    (take l.record-index l.list)
