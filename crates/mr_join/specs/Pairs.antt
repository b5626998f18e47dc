-- The pairs of records that meet.
use Rattle.std.specs.Prelude.{Bool, List, map, filter}
use Rattle.std.specs.List.{flat_map}
use Rattle.std.specs.Ordering.{ordering_then, is_lt, nat_cmp}
use Rattle.mr_geom.specs.Plane.{touches}
use Rattle.mr_record.specs.Sorting.{sorted_by}
use Rattle.mr_record.specs.declared.record.Record.{Record}
use Rattle.mr_join.specs.declared.pair.Pair.{Pair}

-- the numbers of two records
abbrev pub pair_of : Record → Record → Pair
pair_of r q = record { first = r.number; second = q.number }

-- a pair of the record and each of these that meets it
abbrev pub pairs_with : List Record → Record → List Pair
pairs_with qs r = map (pair_of r) (filter (λ (q : Record). touches r.rect q.rect) qs)

-- the one has the lesser first number, or the same and the lesser second one
abbrev pub is_before : Pair → Pair → Bool
is_before p q = is_lt (ordering_then (nat_cmp p.first q.first) (nat_cmp p.second q.second))

-- a pair for each two records that meet, one of each list, in rising order; two that are alike may
-- stand there where numbers come twice
unfoldable pub pairs_of : List Record → List Record → List Pair
pairs_of rs qs = sorted_by is_before (flat_map (pairs_with qs) rs)
