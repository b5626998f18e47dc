-- A list that is cut in two by sides: an item goes to the second part where its side is true, and
-- to the first where it is false or missing. This file names nothing of the source.
use Rattle.std.specs.Prelude.{Bool, true, false, List, [], ◌∷◌}

-- the items on the second side
abbrev pub second_part : {X : Type 0} → List Bool → List X → List X
second_part [] xs = []
second_part (b ∷ bs) [] = []
second_part (true ∷ bs) (x ∷ xs) = x ∷ second_part bs xs
second_part (false ∷ bs) (x ∷ xs) = second_part bs xs

-- and the others
abbrev pub first_part : {X : Type 0} → List Bool → List X → List X
first_part [] xs = xs
first_part (b ∷ bs) [] = []
first_part (true ∷ bs) (x ∷ xs) = first_part bs xs
first_part (false ∷ bs) (x ∷ xs) = x ∷ first_part bs xs
