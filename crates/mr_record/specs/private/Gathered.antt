-- Bytes that are gathered before a sink is given them. This serves private functions.
use Rattle.std.specs.Prelude.{◌≡◌, List, ℕ, ◌++◌}
use Rattle.mr_outside.specs.State.{Sunk}
use Rattle.mr_outside.specs.Told.{TakesBytes}

-- of what was held the sink took a front, and the rest is still held
pub record SendsFront (before after : Sunk) (held kept : List ℕ) : Type 0 where
  pub sent : List ℕ
  pub whole : held ≡ sent ++ kept
  pub takes : TakesBytes before after sent
