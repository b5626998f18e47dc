-- How the entries of a node that is too full are put into two groups (Guttman's quadratic split).
use Rattle.std.specs.Prelude.{ℕ, zero, suc, ◌+◌, ◌-◌, ◌==◌, nat_lt, ℤ, pos, ◌-ℤ◌, unsigned_abs, Bool, true, false, not, if◌then◌else◌, List, map, length, get_or, set, replicate, Option, Some, None}
use Rattle.std.specs.List.{filter, count_by}
use Rattle.std.specs.Ordering.{ordering_then, is_lt, int_cmp, nat_cmp}
use Rattle.mr_geom.specs.Rectangle.{Rectangle, join, union_of, area}
use Rattle.mr_split.specs.Best.{best, positions}
use Rattle.mr_split.specs.Choice.{rect_at}
use Rattle.mr_split.specs.Seeds.{seeds}
use Rattle.mr_split.specs.declared.mark.Mark.{Mark}
use Rattle.mr_split.specs.declared.mark.Mark.TheVariants.{Open, First, Second}

-- ---- marks: an entry is in the first group, in the second, or open

-- the marks are the same
abbrev pub is : Mark → Mark → Bool
is Open Open = true
is First First = true
is Second Second = true
is m n = false

abbrev pub mark_at : List Mark → ℕ → Mark
mark_at marks n = get_or marks n Open

-- how many have this mark
abbrev pub count : Mark → List Mark → ℕ
count mark marks = count_by (is mark) marks

-- ---- a group

-- the rectangle at a position, if the position is in the group
abbrev pub member : List Rectangle → List Mark → Mark → ℕ → Option Rectangle
member list marks group n =
    if is group (mark_at marks n) then Some (rect_at list n) else None

-- the union of a group
unfoldable pub bounds : List Rectangle → List Mark → Mark → Option Rectangle
bounds list marks group = union_of (map (member list marks group) (positions (length list)))

abbrev pub area_of : Option Rectangle → ℤ
area_of None = pos 0
area_of (Some r) = area r

-- by how much a union grows where it is enlarged to hold a rectangle too
unfoldable pub growth_of : Option Rectangle → Rectangle → ℤ
growth_of group r = area_of (join group (Some r)) -ℤ area_of group

-- ---- the entry that goes next (Guttman's PickNext)

-- how much it matters where a rectangle goes: by how much the one group would grow more than the
-- other
unfoldable pub preference : (first second : Option Rectangle) → Rectangle → ℕ
preference first second r = unsigned_abs (growth_of first r -ℤ growth_of second r)

-- the same of an entry: an open one counts one more, so that it goes before all that are in groups
abbrev pub urgency : (first second : Option Rectangle) → Mark → Rectangle → ℕ
urgency first second mark r = if is Open mark then suc (preference first second r) else 0

abbrev pub is_more_urgent : List Rectangle → List Mark → (first second : Option Rectangle) →
    ℕ → ℕ → Bool
is_more_urgent list marks first second i j =
    nat_lt (urgency first second (mark_at marks j) (rect_at list j))
    (urgency first second (mark_at marks i) (rect_at list i))

-- the position of the open entry of which it matters most, of several the lowest
unfoldable pub most_urgent : List Rectangle → List Mark → (first second : Option Rectangle) → ℕ
most_urgent list marks first second =
    best (is_more_urgent list marks first second) 0 (positions (length list))

abbrev pub next : List Rectangle → List Mark → ℕ
next list marks = most_urgent list marks (bounds list marks First) (bounds list marks Second)

-- ---- the group to which it goes

-- the second group grows less than the first, or as much and has the lesser area, or that is the
-- same too and it has fewer entries
unfoldable pub is_second_fitter : (first second : Option Rectangle) → (in_first in_second : ℕ) →
    Rectangle → Bool
is_second_fitter first second in_first in_second r =
    is_lt (ordering_then (ordering_then (int_cmp (growth_of second r) (growth_of first r))
    (int_cmp (area_of second) (area_of first))) (nat_cmp in_second in_first))

-- the group to which a rectangle goes
abbrev pub group_for : List Rectangle → List Mark → Rectangle → Mark
group_for list marks r =
    if is_second_fitter (bounds list marks First) (bounds list marks Second) (count First marks)
    (count Second marks) r
    then Second else First

-- ---- from the seeds on

-- the seeds open the groups
abbrev pub seeded : List Rectangle → List Mark
seeded list =
    set (set (replicate (length list) Open) (seeds list).first First) (seeds list).second Second

-- a group and all that is open have together exactly so many entries
abbrev pub needs_all : ℕ → Mark → List Mark → Bool
needs_all least group marks = (count group marks + count Open marks) == least

-- a group takes all that is open
abbrev pub filled : Mark → List Mark → List Mark
filled group marks = map (λ mark. if is Open mark then group else mark) marks

-- the next entry goes to its group
abbrev pub with_next_placed : List Rectangle → List Mark → List Mark
with_next_placed list marks =
    set marks (next list marks) (group_for list marks (rect_at list (next list marks)))

-- all entries are in groups, where so many are open
unfoldable pub shared : (left : ℕ) → (least : ℕ) → List Rectangle → List Mark → List Mark
shared zero least list marks = marks
shared (suc left) least list marks =
    if needs_all least First marks then filled First marks
    else (if needs_all least Second marks then filled Second marks
    else shared left least list (with_next_placed list marks))

-- of each entry whether it goes to the second group, where each group gets at least so many
unfoldable pub sides : List Rectangle → (least : ℕ) → List Bool
sides list least = map (is Second) (shared (length list - 2) least list (seeded list))

-- whether an entry that is in the second group or not is on one side
abbrev pub is_on : (side in_second : Bool) → Bool
is_on true b = b
is_on false b = not b

-- the positions on one side, rising
abbrev pub group : List Bool → (side : Bool) → List ℕ
group bs side = filter (λ n. is_on side (get_or bs n false)) (positions (length bs))

-- the positions in the first group
abbrev pub first_group : List Rectangle → (least : ℕ) → List ℕ
first_group list least = group (sides list least) false

-- the positions in the second group
abbrev pub second_group : List Rectangle → (least : ℕ) → List ℕ
second_group list least = group (sides list least) true
