use Rattle.std.proofs.Common.{◌≡◌, length}
use Rattle.mr_grow.specs.Parts.{first_part, second_part}
use Rattle.mr_grow.proofs.parts.part.Given as goal

-- the parts of the items so far
abbrev pub invariant-loop-item : goal.invariant-loop-item
invariant-loop-item g l = record {
  count : l.at ≡ length l.yielded;
  first : l.first.items ≡ first_part l.sides l.yielded;
  second : l.second.items ≡ second_part l.sides l.yielded;
}
