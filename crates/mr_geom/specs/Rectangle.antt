-- A rectangle as four whole numbers, in map units. This file names nothing of the source.
use Rattle.std.specs.Prelude.{ℤ, ◌-ℤ◌, ◌*ℤ◌, ◌≤ℤ◌, FitsSigned, int_le, Bool, ◌&&◌, if◌then◌else◌, List, fold, Option, Some, None}
use Rattle.std.specs.Int.{int_min, int_max, w32}

pub record Rectangle : Type 0 where
  pub x0 : ℤ
  pub y0 : ℤ
  pub x1 : ℤ
  pub y1 : ℤ

-- the sides are in order
pub record IsOrdered (r : Rectangle) : Type 0 where
  pub x : r.x0 ≤ℤ r.x1
  pub y : r.y0 ≤ℤ r.y1

-- whether they are
abbrev pub in_order : Rectangle → Bool
in_order r = int_le r.x0 r.x1 && int_le r.y0 r.y1

-- the rectangle, if its sides are in order
abbrev pub if_ordered : Rectangle → Option Rectangle
if_ordered r = if in_order r then Some r else None

-- the rectangle of four numbers, if there is one
abbrev pub rectangle_of : (x0 y0 x1 y1 : ℤ) → Option Rectangle
rectangle_of x0 y0 x1 y1 = if_ordered (record { x0 = x0; y0 = y0; x1 = x1; y1 = y1 })

-- each coordinate is one of a map: a whole number of 32 bits with its sign
pub record FitsMap (r : Rectangle) : Type 0 where
  pub x0 : FitsSigned w32 r.x0
  pub y0 : FitsSigned w32 r.y0
  pub x1 : FitsSigned w32 r.x1
  pub y1 : FitsSigned w32 r.y1

-- the least rectangle round both
abbrev pub union : Rectangle → Rectangle → Rectangle
union a b = record {
  x0 = int_min a.x0 b.x0;
  y0 = int_min a.y0 b.y0;
  x1 = int_max a.x1 b.x1;
  y1 = int_max a.y1 b.y1;
}

-- the least rectangle round what is there
abbrev pub join : Option Rectangle → Option Rectangle → Option Rectangle
join None b = b
join (Some a) None = Some a
join (Some a) (Some b) = Some (union a b)

-- the least rectangle round all that are there, where there is one
abbrev pub union_of : List (Option Rectangle) → Option Rectangle
union_of rects = fold join None rects

-- in squared map units
abbrev pub area : Rectangle → ℤ
area r = (r.x1 -ℤ r.x0) *ℤ (r.y1 -ℤ r.y0)
