-- A count that rose in one of several calls rose in all of them together.
use Rattle.std.proofs.Common.{ℕ, ◌≤◌, arith}
use Rattle.mr_outside.specs.Faults.{Rose, next_count}

-- first a call in which the count rose, then others, in which it does not fall
pub rose_then_later : (before between now : ℕ) → Rose before between → between ≤ now → Rose before now
rose_then_later before between now rose later = record { by_one = omega (arith, rose.by_one) }

-- first calls in which the count does not fall, then one in which it rose
pub later_then_rose : (before between now : ℕ) → before ≤ between → Rose between now → Rose before now
later_then_rose before between now later rose = record { by_one = omega (arith, rose.by_one) }

-- a count that rises by one, as far as it can, rose and did not fall
pub next_count-Rose : (n : ℕ) → Rose n (next_count n)
next_count-Rose n = record { by_one = omega arith }

pub next_count-le : (n : ℕ) → n ≤ next_count n
next_count-le n = omega arith
