-- The records that are nearest to a point.
use Rattle.std.specs.Prelude.{ℕ, ◌-◌, Bool, true, nat_lt, nat_le, List, map, take, Option, Some, None}
use Rattle.std.specs.List.{slice_get, count_by}
use Rattle.std.specs.Ordering.{ordering_then, is_lt, nat_cmp}
use Rattle.mr_geom.specs.Rectangle.{Rectangle}
use Rattle.mr_geom.specs.Distance.{least_squared_distance}
use Rattle.mr_geom.specs.declared.point.Point.{Point}
use Rattle.mr_record.specs.Sorting.{sorted_by}
use Rattle.mr_record.specs.declared.record.Record.{Record}

-- ---- distances

-- the squared distance of a record: of the point to the nearest point of its rectangle
abbrev pub distance : Point → Record → ℕ
distance p r = least_squared_distance r.rect p

abbrev pub distances : Point → List Record → List ℕ
distances p records = map (distance p) records

-- the kth least of some numbers, counted from 1, where there are as many
unfoldable pub kth_least : ℕ → List ℕ → Option ℕ
kth_least k numbers = slice_get (sorted_by nat_lt numbers) (k - 1)

-- whether the closed circle of this squared radius round the point meets the rectangle; with no
-- radius it is everything
abbrev pub is_within : Point → Option ℕ → Rectangle → Bool
is_within p None r = true
is_within p (Some radius) r = nat_le (least_squared_distance r p) radius

-- how many records are nearer than this squared distance, and how many are not farther
abbrev pub nearer_than : Point → ℕ → List Record → ℕ
nearer_than p n records = count_by (λ r. nat_lt (distance p r) n) records

abbrev pub not_farther_than : Point → ℕ → List Record → ℕ
not_farther_than p n records = count_by (λ r. nat_le (distance p r) n) records

-- ---- the nearest records

-- the one is nearer than the other, or as near and of lesser number
abbrev pub is_nearer : Point → Record → Record → Bool
is_nearer p a b =
    is_lt (ordering_then (nat_cmp (distance p a) (distance p b)) (nat_cmp a.number b.number))

-- the records by rising distance, and of one distance by rising number; equal ones keep their order
abbrev pub ranked : Point → List Record → List Record
ranked p records = sorted_by (is_nearer p) records

-- the first k of them, or all where there are fewer
unfoldable pub nearest : Point → ℕ → List Record → List Record
nearest p k records = take k (ranked p records)
