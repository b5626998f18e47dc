-- What the real file system and the real output tell: nothing but their counts.
use Rattle.std.specs.Prelude.{ℕ, None}
use Rattle.mr_outside.specs.State.{Shelved, Sunk}

abbrev pub untold_shelf : ℕ → ℕ → Shelved
untold_shelf faults reads = record { files = None; faults = faults; reads = reads }

abbrev pub untold_sink : ℕ → Sunk
untold_sink faults = record { taken = None; faults = faults }
