-- What a read of a file gives.
use Rattle.std.specs.Prelude.{◌≡◌, ℕ, ◌+◌, ◌-◌, ◌/◌, ◌≤◌, List, ◌++◌, length, take, drop, min}

-- at most so many bytes came as there is room for, and what stands behind them is as before
pub record FillsFront (before after : List ℕ) (count : ℕ) : Type 0 where
  pub within : count ≤ length before
  pub rest : drop count after ≡ drop count before

-- What came are the bytes from this place on, as many as there are and as there is room for.
pub record GivesFrom (place : ℕ) (before after : List ℕ) (count : ℕ) (bytes : List ℕ) : Type 0 where
  pub count_is : count ≡ min (length before) (length bytes - place)
  pub bytes_are : after ≡ take count (drop place bytes) ++ drop count before

-- into how many pieces of 65,536 bytes so many bytes are cut
abbrev pub piece_count : ℕ → ℕ
piece_count length = (length + 65535) / 65536
