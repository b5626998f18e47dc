-- What private functions find. Nothing of this has to be believed: no public contract cites it.
use Rattle.std.specs.Prelude.{ℕ, List, map, filter}
use Rattle.std.specs.List.{flat_map}
use Rattle.mr_geom.specs.Rectangle.{Rectangle}
use Rattle.mr_geom.specs.Plane.{touches}
use Rattle.mr_record.specs.declared.record.Record.{Record}
use Rattle.mr_join.specs.declared.entry.Entry.{Entry}
use Rattle.mr_join.specs.declared.pair.Pair.{Pair}

abbrev pub entry_of : Record → Entry
entry_of r = record { rect = r.rect; number = r.number }

-- those that meet the rectangle
abbrev pub met : Rectangle → List Entry → List Entry
met r es = filter (λ (e : Entry). touches r e.rect) es

-- a pair of this number and that of an entry
abbrev pub paired : ℕ → Entry → Pair
paired n e = record { first = n; second = e.number }

-- the pairs of an entry with those that meet it
abbrev pub found_with : List Entry → Entry → List Pair
found_with es e = map (paired e.number) (met e.rect es)

-- the pairs of the first with those of the second that meet them
abbrev pub all_pairs : List Entry → List Entry → List Pair
all_pairs es fs = flat_map (found_with fs) es
