-- A record by its number.
use Rattle.std.specs.Prelude.{ℕ, zero, suc, ◌==◌, Bool, if◌then◌else◌, List, [], ◌∷◌}
use Rattle.std.specs.List.{list_any}
use Rattle.mr_record.specs.declared.record.Record.{Record}

-- whether a record has this number
abbrev pub is_numbered : ℕ → Record → Bool
is_numbered n r = r.number == n

-- whether one of some records has it
abbrev pub has : ℕ → List Record → Bool
has n rs = list_any (is_numbered n) rs

-- the position of the first item that passes a test, the length where none does
abbrev pub place_of : {X : Type 0} → (X → Bool) → List X → ℕ
place_of test [] = 0
place_of test (x ∷ xs) = if test x then zero else suc (place_of test xs)
