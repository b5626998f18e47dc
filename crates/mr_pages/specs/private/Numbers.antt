-- Numbers that were met: with a flag, in a table with one place for each, or beside it.
use Rattle.std.specs.Prelude.{◌≡◌, ◌≢◌, ℕ, ◌+◌, ◌==◌, nat_lt, ◌&&◌, ◌||◌, Bool, false, if◌then◌else◌, List, [], ◌∷◌, ◌++◌, length, slice_index_or}
use Rattle.std.specs.Bool.{OnFalse}
use Rattle.std.specs.Ordering.{nat_cmp}
use Rattle.std.specs.BTreeSet.{contains, btree_set_len}
use Rattle.mr_pages.specs.declared.numbers.Numbers.{Numbers}
use Rattle.mr_pages.specs.Faults.{has}
use Rattle.mr_pages.specs.private.Places.{number_in_place, is_taken, taken_of, flagged_of}

-- whether a number without a flag is kept: at its place, or among the others
abbrev pub holds_high : Numbers → ℕ → Bool
holds_high s n = (is_taken n && number_in_place s.table.places.items n == n) || contains nat_cmp
    s.others n

-- whether the number is kept
abbrev pub holds : Numbers → ℕ → Bool
holds s n =
    if nat_lt n (length s.flags.flags.items) then slice_index_or s.flags.flags.items n false
    else holds_high s n

-- how many numbers are kept
abbrev pub count_kept : Numbers → ℕ
count_kept s =
    flagged_of s.flags.flags.items + taken_of s.table.places.items + btree_set_len s.others

-- just these numbers were met, none of them twice
pub record Met (s : Numbers) (ns : List ℕ) : Type 0 where
  pub all : (n : ℕ) → holds s n ≡ has n ns
  pub count : count_kept s ≡ length ns
  -- a number whose place is empty is not among the others, unless it is 0
  pub others : (n : ℕ) → n ≢ 0 → number_in_place s.table.places.items n ≡ 0 →
      contains nat_cmp s.others n ≡ false

-- what comes of meeting a number: whether it was met before, and else it is met now
abbrev pub MeetsNumber : Numbers → ℕ → Bool → Numbers → Type 0
MeetsNumber before n old after =
    (ns : List ℕ) → Met before ns → (old ≡ has n ns) × OnFalse old (Met after (ns ++ n ∷ []))
