-- Numbers that stand each at one place of a table.
use Rattle.std.specs.Prelude.{ℕ, ◌%◌, ◌==◌, not, Bool, List, length, slice_index, slice_set}
use Rattle.std.specs.List.{count_by}

-- what stands at a number's place, 0 where nothing does
abbrev pub number_in_place : List ℕ → ℕ → ℕ
number_in_place places n = slice_index places (n % length places)

-- the table with the number at its place
abbrev pub put_at_place : List ℕ → ℕ → List ℕ
put_at_place places n = slice_set places (n % length places) n

-- whether the place is taken by what stands there
abbrev pub is_taken : ℕ → Bool
is_taken n = not (n == 0)

-- how many places are taken
abbrev pub taken_of : List ℕ → ℕ
taken_of places = count_by is_taken places

-- how many flags are set
abbrev pub flagged_of : List Bool → ℕ
flagged_of flags = count_by (λ b. b) flags
