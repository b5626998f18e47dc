-- What a hasher was fed that keeps the last of its bytes and feeds them on later.
use Rattle.std.specs.Prelude.{◌≡◌, ℕ, List, ◌++◌}

-- It was fed `fed`: it fed on `front`, which `holds` says, and keeps `piece`.
pub record IsFed (holds : List ℕ → Type 0) (front piece fed : List ℕ) : Type 0 where
  pub on : holds front
  pub all : front ++ piece ≡ fed
