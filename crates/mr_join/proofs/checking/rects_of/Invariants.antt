use Rattle.std.proofs.Common.{◌≡◌, take}
use Rattle.mr_join.specs.Meets.{rects_of}
use Rattle.mr_join.proofs.checking.rects_of.Given as goal

-- of the first ones
abbrev pub invariant-loop-record : goal.invariant-loop-record
invariant-loop-record l = l.rects.items ≡ rects_of (take l.record-index l.records)
