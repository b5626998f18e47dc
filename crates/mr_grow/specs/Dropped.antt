-- Why a deletion is refused.
use Rattle.std.specs.Prelude.{◌≡◌, ℕ, ⊤, false}
use Rattle.mr_tree.specs.Tree.{records}
use Rattle.mr_tree.specs.declared.tree.Tree.{Tree}
use Rattle.mr_grow.specs.Found.{has}
use Rattle.mr_grow.specs.declared.deletion.DropErr.{DropErr}
use Rattle.mr_grow.specs.declared.deletion.DropErr.TheVariants.{Absent, NoMemory}

-- the number is not there; the tree comes back
abbrev pub IsDropCause : DropErr → Tree → ℕ → Type 0
IsDropCause (Absent back number) t n = (back ≡ t) × (number ≡ n) × (has n (records t) ≡ false)
IsDropCause NoMemory t n = ⊤
