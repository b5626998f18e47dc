use Rattle.std.proofs.Common.{◌≡◌, ◌++◌, map, take}
use Rattle.mr_store.specs.private.Listing.{directory_entry}
use Rattle.mr_store.proofs.listing.list_records.Given as goal

-- the first ones are listed
abbrev pub invariant-loop-one : goal.invariant-loop-one
invariant-loop-one l = l.all.items ≡ l.initial.all.items ++ map directory_entry (take l.one-index l.records)
