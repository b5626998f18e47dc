-- The kth least of some numbers, told by counts. This serves private functions and proofs.
use Rattle.std.specs.Prelude.{ℕ, ◌+◌, ◌<◌, ◌≤◌, List, length, Option, Some, None, nat_lt}
use Rattle.std.specs.List.{count_by}

-- how many are below x
abbrev pub below : ℕ → List ℕ → ℕ
below x numbers = count_by (λ n. nat_lt n x) numbers

-- it is the kth least of them, or there are fewer than k
abbrev pub IsRadius : ℕ → List ℕ → Option ℕ → Type 0
IsRadius k numbers None = length numbers < k
IsRadius k numbers (Some r) = (below r numbers < k) × (k ≤ below (r + 1) numbers)
