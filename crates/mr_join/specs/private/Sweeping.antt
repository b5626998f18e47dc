-- A sweep from left to right, and a tree of what it has come to. Nothing of this has to be
-- believed: no public contract cites it.
use Rattle.std.specs.Prelude.{◌≡◌, ℕ, zero, suc, ◌/◌, ℤ, pos, neg_ℤ, ◌+ℤ◌, ◌≤ℤ◌, ◌<ℤ◌, ◌^◌, int_lt, int_le, ⊤, Bool, ◌&&◌, ◌||◌, if◌then◌else◌, List, ◌∷◌, ◌++◌, length, map, filter, slice_index_or, ◌≤◌, ◌<◌}
use Rattle.std.specs.List.{AllByRecursion, flat_map}
use Rattle.std.specs.List.Sorted.{IsPermutation}
use Rattle.mr_geom.specs.Rectangle.{Rectangle}
use Rattle.mr_geom.specs.Plane.{touches}
use Rattle.mr_join.specs.declared.entry.Entry.{Entry}
use Rattle.mr_join.specs.declared.pair.Pair.{Pair}
use Rattle.mr_join.specs.declared.bounds.Bounds.{Bounds}
use Rattle.mr_join.specs.declared.query.Query.{Query}
use Rattle.mr_join.specs.declared.searching.Node.{Node}

-- ---- a query: an entry of the one list, for which those of the other are searched

-- those of the other list that begin before it are asked for; of two that begin together the one
-- of the first list counts as before
abbrev pub query_of : Bool → Entry → Query
query_of turned e = record {
  rect = e.rect;
  number = e.number;
  until = if turned then e.rect.x0 else e.rect.x0 +ℤ pos 1;
  turned = turned;
}

-- whether the entry begins before the query's, and meets it
abbrev pub is_met : Query → Entry → Bool
is_met q e = int_lt e.rect.x0 q.until && touches q.rect e.rect

-- the query's entry is one of the second list, or where it is turned of the first
abbrev pub pair_by : Query → Entry → Pair
pair_by q e = if q.turned then record { first = q.number; second = e.number }
    else record { first = e.number; second = q.number }

abbrev pub found_by : List Entry → Query → List Pair
found_by es q = map (pair_by q) (filter (is_met q) es)

-- ---- bounds of entries

-- from x on: those that begin before it is due lie between, unless they have ended
abbrev pub Within : ℤ → Bounds → Entry → Type 0
Within x b e = x ≤ℤ e.rect.x1 → e.rect.x0 <ℤ b.due → (b.low ≤ℤ e.rect.y0) × (e.rect.y1 ≤ℤ b.high)

-- what is within the first is within the second
pub record Wider (a b : Bounds) : Type 0 where
  pub due : b.due ≤ℤ a.due
  pub low : b.low ≤ℤ a.low
  pub high : a.high ≤ℤ b.high

-- whether an entry within these bounds may meet the query's
abbrev pub reaches : Query → Bounds → Bool
reaches q b = int_lt b.due q.until || (int_le b.low q.rect.y1 && int_le q.rect.y0 b.high)

-- ---- a tree, in a list: its root in the middle, and on either side a tree

abbrev pub own_entry : Node → Entry
own_entry n = n.entry

abbrev pub AllWithin : ℤ → Bounds → List Node → Type 0
AllWithin x b ns = AllByRecursion (λ (n : Node). Within x b n.entry) ns

-- down to a depth, all nodes of each part lie within the bounds of its root
abbrev pub IsTreeTo : ℤ → ℕ → List Node → Type 0
IsTreeTo x zero ns = ⊤
IsTreeTo x (suc d) ns = (front : List Node) (n : Node) (back : List Node) → ns ≡ front ++ n ∷ back
    → length front ≡ length ns / 2
    → AllWithin x n.bounds ns × IsTreeTo x d front × IsTreeTo x d back

abbrev pub IsTree : ℤ → List Node → Type 0
IsTree x ns = (d : ℕ) → IsTreeTo x d ns

-- the pairs that the query finds were put behind the others
pub record Searched (q : Query) (old new : List Node) (before after : List Pair) : Type 0 where
  pub tree : IsTree q.rect.x0 new
  pub entries : map own_entry new ≡ map own_entry old
  pub found : after ≡ before ++ found_by (map own_entry old) q

-- ---- before the first search

-- no map's coordinate is less
abbrev pub least : ℤ
least = neg_ℤ (pos (2 ^ 31))

abbrev pub LeastLeft : Rectangle → Type 0
LeastLeft r = least ≤ℤ r.x0

-- nothing is due later than anything else
pub record IsFresh (n : Node) : Type 0 where
  pub due : n.bounds.due ≤ℤ least
  pub left : LeastLeft n.entry.rect

-- ---- sweeps

-- none begins before one that stands before it
abbrev pub Rises : List Entry → Type 0
Rises es = (i j : ℕ) (d : Entry) → i ≤ j → j < length es
    → (slice_index_or es i d).rect.x0 ≤ℤ (slice_index_or es j d).rect.x0

-- the pairs that the query for an entry finds
abbrev pub found_for : Bool → List Entry → Entry → List Pair
found_for turned es e = found_by es (query_of turned e)

-- the pairs that queries for the one list find in the other were put behind those before
pub record FindsHalf (turned : Bool) (held asking : List Entry) (before after : List Pair)
    : Type 0 where
  pub nodes : List Entry
  pub queries : List Entry
  pub all_held : IsPermutation held nodes
  pub all_asking : IsPermutation asking queries
  pub found : after ≡ before ++ flat_map (found_for turned nodes) queries
