-- The records that meet one of some rectangles.
use Rattle.std.specs.Prelude.{Bool, List, map}
use Rattle.std.specs.List.{list_any}
use Rattle.mr_geom.specs.Rectangle.{Rectangle}
use Rattle.mr_geom.specs.Plane.{touches}
use Rattle.mr_record.specs.declared.record.Record.{Record}
use Rattle.mr_query.specs.declared.key.Key.{Key}
use Rattle.mr_proof.specs.declared.way.Way.{Way}
use Rattle.mr_proof.specs.Tight.{way_if}

-- whether a rectangle meets one of these
abbrev pub meets_one : List Rectangle → Rectangle → Bool
meets_one list r = list_any (λ (w : Rectangle). touches r w) list

-- a part that meets one is opened, whatever its layers, and all else left out
abbrev pub meets_way : List Rectangle → Key → Way
meets_way list part = way_if (meets_one list part.rect)

abbrev pub rects_of : List Record → List Rectangle
rects_of rs = map (λ (r : Record). r.rect) rs
