-- What a crash may leave of a file of which some ranges were written to and not synced.
use Rattle.std.specs.Prelude.{◌≡◌, ◌⊎◌, ℕ, ◌+◌, ◌<◌, ◌≤◌, max, List, [], ◌∷◌, length, slice_index}

-- a range of a file: its first place, and how many bytes it has
abbrev pub Range : Type 0
Range = ℕ × ℕ

-- the place lies in one of the ranges
abbrev pub IsTouched : List Range → ℕ → Type 0
IsTouched [] place = ⊥
IsTouched (r ∷ rs) place = ((r.0 ≤ place) × (place < r.0 + r.1)) ⊎ IsTouched rs place

-- the greatest length of a file of this length whose ranges are written one after the other
abbrev pub greatest : ℕ → List Range → ℕ
greatest length [] = length
greatest length (r ∷ rs) = max (r.0 + r.1) (greatest length rs)

-- Any bytes may stand in the ranges and past the old end, and the length is any from the old to the
-- greatest; all else stays.
pub record Torn (ranges : List Range) (old new : List ℕ) : Type 0 where
  pub no_shorter : length old ≤ length new
  pub no_longer : length new ≤ greatest (length old) ranges
  pub else_stays : (i : ℕ) → i < length old → (IsTouched ranges i → ⊥)
      → slice_index new i ≡ slice_index old i

-- one range
abbrev pub TornAt : ℕ → ℕ → List ℕ → List ℕ → Type 0
TornAt place count = Torn ((place, count) ∷ [])
