-- The records that lie inside a window and are on one of some layers.
use Rattle.std.specs.Prelude.{ℕ, Bool, ◌==◌, ◌&&◌, int_le, bit_or, if◌then◌else◌, List, length, filter}
use Rattle.mr_geom.specs.Rectangle.{Rectangle}
use Rattle.mr_geom.specs.Plane.{touches}
use Rattle.mr_record.specs.declared.record.Record.{Record}
use Rattle.mr_query.specs.Layers.{share_layer, is_on}
use Rattle.mr_query.specs.declared.key.Key.{Key}
use Rattle.mr_proof.specs.declared.way.Way.{Way}
use Rattle.mr_proof.specs.declared.way.Way.TheVariants as ways

-- whether the first lies in the second, whose sides it may share
abbrev pub lies_in : Rectangle → Rectangle → Bool
lies_in a w = int_le w.x0 a.x0 && (int_le a.x1 w.x1 && (int_le w.y0 a.y0 && int_le a.y1 w.y1))

-- whether all layers of a mask are among these
abbrev pub has_only : (mask layers : ℕ) → Bool
has_only mask layers = bit_or mask layers == layers

-- What misses the window or has none of the layers is left out; else what lies in the window and
-- has only these layers is taken whole, and all else is opened.
abbrev pub inside_way : Rectangle → (layers : ℕ) → Key → Way
inside_way w layers part =
    if touches w part.rect && share_layer part.mask layers
    then if lies_in part.rect w && has_only part.mask layers then ways.Whole else ways.Open
    else ways.Skip

-- whether a record lies inside the window and is on one of the layers
abbrev pub is_inside : Rectangle → (layers : ℕ) → Record → Bool
is_inside w layers r = lies_in r.rect w && is_on layers r

-- how many of the records do
abbrev pub count_inside : Rectangle → (layers : ℕ) → List Record → ℕ
count_inside w layers rs = length (filter (is_inside w layers) rs)
