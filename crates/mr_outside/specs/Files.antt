-- What a shelf holds: named files.
use Rattle.std.specs.Prelude.{ℕ, ◌+◌, List, ◌++◌, length, take, drop, Option, Some, None}
use Rattle.std.specs.Ordering.{nat_cmp}
use Rattle.std.specs.Cmp.Lexicographic.{slice_cmp}
use Rattle.std.specs.FinMap as map

-- the bytes of each file, by the bytes of its name
abbrev pub Files : Type 0
Files = map.FinMap (slice_cmp nat_cmp) (List ℕ)

-- the bytes of the named file, where there is one
abbrev pub file : Files → List ℕ → Option (List ℕ)
file files name = map.get files name

-- the named file has these bytes, and each other is as it was
abbrev pub with_file : List ℕ → List ℕ → Files → Files
with_file name bytes files = map.insert files name bytes

abbrev pub with_found : List ℕ → (List ℕ → List ℕ) → Files → Option (List ℕ) → Files
with_found name change files None = files
with_found name change files (Some held) = with_file name (change held) files

-- the bytes of the named file are changed, if there is one, and each other file is as it was
abbrev pub with_change : List ℕ → (List ℕ → List ℕ) → Files → Files
with_change name change files = with_found name change files (file files name)

-- these bytes stand behind those of the named file
abbrev pub grown : List ℕ → List ℕ → Files → Files
grown name bytes = with_change name (λ held. held ++ bytes)

-- these bytes stand in a list in place of those from this place on
abbrev pub replaced : ℕ → List ℕ → List ℕ → List ℕ
replaced place bytes held = take place held ++ bytes ++ drop (place + length bytes) held

-- these bytes stand in the named file in place of those from this place on
abbrev pub overwritten : List ℕ → ℕ → List ℕ → Files → Files
overwritten name place bytes = with_change name (replaced place bytes)
