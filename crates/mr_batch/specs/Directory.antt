-- A finite map from record number to rectangle, as its entries.
use Rattle.std.specs.Prelude.{◌≡◌, ◌≢◌, ℕ, ◌==◌, if◌then◌else◌, List, [], ◌∷◌, length, Option, Some, None, is_some, AllPairs}
use Rattle.std.specs.List.Sorted.{IsStrictlySortedBy}
use Rattle.std.specs.Map.{lookup, keys_of}
use Rattle.std.specs.BTreeMap.{is_at}
use Rattle.std.specs.Ordering.{nat_cmp}
use Rattle.mr_geom.specs.Rectangle.{Rectangle}
use Rattle.mr_record.specs.declared.record.Record.{Record}
use Rattle.mr_record.specs.RecordText.{has_number}

-- numbers with their rectangles
abbrev pub DirectoryEntries : Type 0
DirectoryEntries = List (ℕ × Rectangle)

-- the numbers rise, so that no two are equal
abbrev pub AreRising : DirectoryEntries → Type 0
AreRising entries = IsStrictlySortedBy nat_cmp (keys_of entries)

-- the rectangle that stands at a number
abbrev pub rect_at : DirectoryEntries → ℕ → Option Rectangle
rect_at entries n = lookup (is_at (nat_cmp n)) entries

-- the rectangle of the record with the number
abbrev pub rect_in : List Record → ℕ → Option Rectangle
rect_in [] n = None
rect_in (r ∷ records) n = if r.number == n then Some r.rect else rect_in records n

-- the map has just the records' numbers, each with its rectangle
pub record IsDirectoryOf (entries : DirectoryEntries) (records : List Record) : Type 0 where
  pub rects : (n : ℕ) → rect_at entries n ≡ rect_in records n
  pub count : length entries ≡ length records

-- the records have different numbers, which are just those of the map
pub record HaveNumbers (entries : DirectoryEntries) (records : List Record) : Type 0 where
  pub same : (n : ℕ) → is_some (rect_at entries n) ≡ has_number n records
  pub apart : AllPairs (λ a b. a.number ≢ b.number) records
