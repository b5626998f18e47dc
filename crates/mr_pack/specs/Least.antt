-- The least number that passes a test. This file names nothing of the source.
use Rattle.std.specs.Prelude.{ℕ, zero, suc, Bool, if◌then◌else◌}

-- the least number that passes, if one up to the limit does
abbrev pub least : (ℕ → Bool) → (limit : ℕ) → ℕ
least passes zero = zero
least passes (suc limit) = if passes (least passes limit) then least passes limit else suc limit
