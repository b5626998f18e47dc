-- Counts of what went wrong, and of reads. They never fall, and stand once they are at their last
-- value.
use Rattle.std.specs.Prelude.{ℕ, ◌+◌, ◌-◌, ◌^◌, ◌≤◌, min, max}

abbrev pub last_count : ℕ
last_count = 2 ^ 64 - 1

-- one more, up to the last value
abbrev pub next_count : ℕ → ℕ
next_count n = max n (min (n + 1) last_count)

-- a count rose in a call: it is greater afterwards than before, or stands at its last value
pub record Rose (before now : ℕ) : Type 0 where
  pub by_one : min (before + 1) last_count ≤ now
