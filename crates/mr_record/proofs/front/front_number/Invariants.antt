use Rattle.std.proofs.Common.{◌≡◌, ◌^◌, ◌<◌, take, true}
use Rattle.std.specs.Char.{is_ascii_digit}
use Rattle.std.specs.List.{list_all}
use Rattle.std.specs.Str.Parse.{digits_value}
use Rattle.mr_record.proofs.front.front_number.Given as goal

abbrev pub invariant-loop-at : goal.invariant-loop-at
invariant-loop-at l =
    (list_all is_ascii_digit (take l.at l.line) ≡ true) × (l.number ≡ digits_value 10 (take l.at l.line))
    × (l.number < 2 ^ 64)
