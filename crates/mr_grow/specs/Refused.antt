-- Why an insertion is refused.
use Rattle.std.specs.Prelude.{◌≡◌, ℕ, ◌≤◌, ⊤, true, false, length}
use Rattle.mr_tree.specs.Limits.{count_limit}
use Rattle.mr_tree.specs.Tree.{records}
use Rattle.mr_tree.specs.declared.tree.Tree.{Tree}
use Rattle.mr_grow.specs.Found.{has}
use Rattle.mr_grow.specs.declared.insertion.GrowErr.{GrowErr}
use Rattle.mr_grow.specs.declared.insertion.GrowErr.TheVariants.{Present, Full, NoMemory}

-- the number is there, or it is not and there are as many records as can be; the tree comes back
abbrev pub IsGrowCause : GrowErr → Tree → ℕ → Type 0
IsGrowCause (Present back number) t n = (back ≡ t) × (number ≡ n) × (has n (records t) ≡ true)
IsGrowCause (Full back) t n =
    (back ≡ t) × (has n (records t) ≡ false) × (count_limit ≤ length (records t))
IsGrowCause NoMemory t n = ⊤
