-- Which of some rectangles a new one goes to (Guttman's ChooseLeaf). This file names nothing of the
-- source.
use Rattle.std.specs.Prelude.{ℕ, pos, ℤ, ◌-ℤ◌, Bool, List, length, get_or}
use Rattle.std.specs.Ordering.{ordering_then, is_lt, int_cmp}
use Rattle.mr_geom.specs.Rectangle.{Rectangle, union, area}
use Rattle.mr_split.specs.Best.{best, positions}

-- the point at which both coordinates are 0
abbrev pub origin : Rectangle
origin = record { x0 = pos 0; y0 = pos 0; x1 = pos 0; y1 = pos 0 }

-- the rectangle at a position
abbrev pub rect_at : List Rectangle → ℕ → Rectangle
rect_at list n = get_or list n origin

-- by how much the area grows where the rectangle is enlarged to hold the other one too
abbrev pub growth : Rectangle → Rectangle → ℤ
growth r other = area (union r other) -ℤ area r

-- the one grows less for a new rectangle than the other, or as much and has the lesser area
unfoldable pub is_fitter : (new : Rectangle) → Rectangle → Rectangle → Bool
is_fitter new a b =
    is_lt (ordering_then (int_cmp (growth a new) (growth b new)) (int_cmp (area a) (area b)))

-- the same of the rectangles at two positions
abbrev pub is_fitter_at : List Rectangle → (new : Rectangle) → ℕ → ℕ → Bool
is_fitter_at list new i j = is_fitter new (rect_at list i) (rect_at list j)

-- the position of the fittest, of several the lowest
unfoldable pub choose : List Rectangle → (new : Rectangle) → ℕ
choose list new = best (is_fitter_at list new) 0 (positions (length list))
