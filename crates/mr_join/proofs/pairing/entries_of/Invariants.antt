use Rattle.std.proofs.Common.{◌≡◌, take, map}
use Rattle.mr_join.specs.private.Pairing.{entry_of}
use Rattle.mr_join.proofs.pairing.entries_of.Given as goal

-- of the first ones
abbrev pub invariant-loop-record : goal.invariant-loop-record
invariant-loop-record l = l.entries.items ≡ map entry_of (take l.record-index l.records)
