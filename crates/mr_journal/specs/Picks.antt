-- What is picked of what a crash may have left of an area.
use Rattle.std.specs.Prelude.{◌≡◌, ◌⊎◌, ◌≢◌, ℕ, ◌<◌, ◌≤◌, List, length, slice_index}
use Rattle.mr_journal.specs.Torn.{IsTouched}
use Rattle.mr_journal.specs.MemoryDisk.{AreaState}

-- what stands at a place: what was written where it is synced, and else 4f
pub record IsGarbledByte (s : AreaState) (place byte : ℕ) : Type 0 where
  pub kept : place < length s.synced → (IsTouched s.touched place → ⊥)
      → byte ≡ slice_index s.held place
  pub garbled : (length s.synced ≤ place) ⊎ IsTouched s.touched place → byte ≡ 79

pub record IsGarbled (s : AreaState) (bytes : List ℕ) : Type 0 where
  pub long : length bytes ≡ length s.held
  pub each : (i : ℕ) → i < length bytes → IsGarbledByte s i (slice_index bytes i)

-- with 0 what was synced, with 2 what was written with 4f at every place that is not synced, and
-- else what was written
pub record IsPicked (pick : ℕ) (s : AreaState) (bytes : List ℕ) : Type 0 where
  pub synced : pick ≡ 0 → bytes ≡ s.synced
  pub garbles : pick ≡ 2 → IsGarbled s bytes
  pub else_held : pick ≢ 0 → pick ≢ 2 → bytes ≡ s.held
