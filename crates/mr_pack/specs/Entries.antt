-- The entries of a level, their order, and how they are put into groups: a variant of STR packing.
use Rattle.std.specs.Prelude.{ℕ, pos, ◌+ℤ◌, Bool, List, length, map, Option, Some, None}
use Rattle.std.specs.List.{flat_map}
use Rattle.std.specs.Ordering.{ordering_then, is_lt, int_cmp, nat_cmp}
use Rattle.mr_geom.specs.Rectangle.{Rectangle}
use Rattle.mr_pack.specs.Cuts.{parts, group_count, slice_count, group_start, slice_start}
use Rattle.mr_record.specs.Sorting.{sorted_by}
use Rattle.mr_pack.specs.declared.placed.Placed.{Placed}

-- an item with twice the middle of its rectangle, and the number that decides between equal middles
abbrev pub placed_item : {T : Type 0} → Option Rectangle → ℕ → T → Placed T
placed_item None tie item = record { x = pos 0; y = pos 0; tie = tie; item = item }
placed_item (Some r) tie item = record {
  x = r.x0 +ℤ r.x1;
  y = r.y0 +ℤ r.y1;
  tie = tie;
  item =
      item;
}

-- the middle of the one lies left of the other's, or on one line with it and decided for
abbrev pub is_left : {T : Type 0} → Placed T → Placed T → Bool
is_left a b = is_lt (ordering_then (int_cmp a.x b.x) (nat_cmp a.tie b.tie))

-- the same from below to above
abbrev pub is_below : {T : Type 0} → Placed T → Placed T → Bool
is_below a b = is_lt (ordering_then (int_cmp a.y b.y) (nat_cmp a.tie b.tie))

-- entries for p groups: slices from left to right, each from below to above
unfoldable pub arranged : {T : Type 0} → (p : ℕ) → List (Placed T) → List (Placed T)
arranged p entries =
    flat_map (sorted_by is_below)
    (parts (slice_start (length entries) p (slice_count p)) (slice_count p)
    (sorted_by is_left entries))

-- entries in p even groups
unfoldable pub in_groups : {T : Type 0} → (p : ℕ) → List (Placed T) → List (List T)
in_groups {T} p entries =
    parts (group_start (length entries) p) p (map (λ (e : Placed T). e.item) (arranged p entries))

-- entries in as few even groups as the capacity allows
abbrev pub grouped : {T : Type 0} → (capacity : ℕ) → List (Placed T) → List (List T)
grouped capacity entries = in_groups (group_count (length entries) capacity) entries
