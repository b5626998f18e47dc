-- The best of a list. This file names nothing of the source.
use Rattle.std.specs.Prelude.{ℕ, Bool, not, if◌then◌else◌, List, [], ◌∷◌}
use Rattle.std.specs.List.{filter, list_any, range_with_len}

-- the first of a list, or another where it is empty
abbrev pub first_or : {X : Type 0} → X → List X → X
first_or none [] = none
first_or none (x ∷ xs) = x

-- the first that no other beats, or another where the list is empty
unfoldable pub best : {X : Type 0} → (beats : X → X → Bool) → (none : X) → List X → X
best beats none xs = first_or none (filter (λ x. not (list_any (λ y. beats y x) xs)) xs)

-- the one that beats the other, of two that tie the first
abbrev pub better : {X : Type 0} → (beats : X → X → Bool) → X → X → X
better beats x y = if beats y x then y else x

-- 0, 1 and on, so many
abbrev pub positions : ℕ → List ℕ
positions n = range_with_len 0 n
