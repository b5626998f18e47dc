-- Marks in runs of 64, as bits.
use Rattle.std.specs.Prelude.{◌≡◌, ℕ, ◌+◌, ◌*◌, ◌/◌, ◌%◌, ◌^◌, ◌≤◌, ◌<◌, count_ones, Bool, List, [], ◌∷◌, if◌then◌else◌, length, take, slice_index_or}
use Rattle.mr_reach.specs.private.Merging.{ones}
use Rattle.mr_reach.specs.declared.marks.Run.{Run}

-- the marks as the bits of a number, the first as the lowest
abbrev pub mask : List Bool → ℕ
mask [] = 0
mask (b ∷ bs) = (if b then 1 else 0) + 2 * mask bs

-- how many are set before this place, as the runs say
abbrev pub run_rank : Run → ℕ → ℕ
run_rank run k = run.before + count_ones (run.bits % 2 ^ k)

abbrev pub rank : List Run → ℕ → ℕ
rank runs at = run_rank (slice_index_or runs (at / 64) (record { before = 0; bits = 0 })) (at % 64)

-- as the marks are
pub record IsRank (marks : List Bool) (runs : List Run) : Type 0 where
  pub room : length marks < 64 * length runs
  pub is : (at : ℕ) → at ≤ length marks → rank runs at ≡ ones (take at marks)
