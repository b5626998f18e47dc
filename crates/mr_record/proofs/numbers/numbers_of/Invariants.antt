use Rattle.std.proofs.Common.{take}
use Rattle.mr_record.specs.private.Numbers.{HoldsNumbers}
use Rattle.mr_record.proofs.numbers.numbers_of.Given as goal

abbrev pub invariant-loop-one : goal.invariant-loop-one
invariant-loop-one l = HoldsNumbers l.numbers (take l.one-index l.records)
