-- Why a batch was not applied to a tree.
use Rattle.std.specs.Prelude.{◌≡◌, ℕ, ⊤, Some}
use Rattle.mr_tree.specs.Tree.{records}
use Rattle.mr_tree.specs.declared.tree.Tree.{Tree}
use Rattle.mr_batch.specs.Changes.{Changes}
use Rattle.mr_batch.specs.Admissible.{batch_fault}
use Rattle.mr_batch.specs.declared.replay.ApplyErr.{ApplyErr}
use Rattle.mr_batch.specs.declared.replay.ApplyErr.TheVariants.{Batch, NoMemory}

-- the first cause why the batch may not be applied, and the tree as it was
abbrev pub IsApplyCause : ApplyErr → Tree → ℕ → Changes → Type 0
IsApplyCause (Batch back fault) t held b =
    (back ≡ t) × (batch_fault (records t) held b ≡ Some fault)
IsApplyCause NoMemory t held b = ⊤
