-- The two entries of a node that least belong together (Guttman's PickSeeds).
use Rattle.std.specs.Prelude.{ℕ, ℤ, ◌-ℤ◌, Bool, List, [], ◌∷◌, ◌++◌, map, length}
use Rattle.std.specs.Ordering.{is_lt, int_cmp}
use Rattle.mr_geom.specs.Rectangle.{Rectangle, union, area}
use Rattle.mr_split.specs.Best.{best, positions}
use Rattle.mr_split.specs.Choice.{rect_at}
use Rattle.mr_split.specs.declared.seeds.Pair.{Pair}

-- one position with each of some others
abbrev pub pairs_of : ℕ → List ℕ → List Pair
pairs_of i js = map (λ j. record { first = i; second = j }) js

-- each with each later one
abbrev pub pairs : List ℕ → List Pair
pairs [] = []
pairs (i ∷ js) = pairs_of i js ++ pairs js

-- the area that is in the union of both and in neither, less what they share; so it may be negative
unfoldable pub waste : List Rectangle → Pair → ℤ
waste list p =
    let a = rect_at list p.first in
    let b = rect_at list p.second in
    (area (union a b) -ℤ area a) -ℤ area b

abbrev pub wastes_more : List Rectangle → Pair → Pair → Bool
wastes_more list p q = is_lt (int_cmp (waste list q) (waste list p))

-- the positions 0 and 1
abbrev pub first_pair : Pair
first_pair = record { first = 0; second = 1 }

-- the pair of the greatest waste: of several the one with the lowest first, and then the lowest
-- second position
unfoldable pub seeds : List Rectangle → Pair
seeds list = best (wastes_more list) first_pair (pairs (positions (length list)))
