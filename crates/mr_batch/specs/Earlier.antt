-- The last earlier change of the same record number.
use Rattle.std.specs.Prelude.{◌≡◌, ◌≢◌, ℕ, ◌<◌, List, length, slice_index, slice_index_or, Option, Some, None}
use Rattle.mr_batch.specs.declared.change.Change.{Change}
use Rattle.mr_batch.specs.Changes.{numbers}

-- j is the last place below the bound at which n stands
pub record IsLastAt (j bound n : ℕ) (ns : List ℕ) : Type 0 where
  pub below : j < bound
  pub here : slice_index ns j ≡ n
  pub last : (k : ℕ) → j < k → k < bound → slice_index ns k ≢ n

-- the last place below the bound at which n stands, and none just where there is none
abbrev pub IsLastBelow : (bound n : ℕ) (ns : List ℕ) → Option ℕ → Type 0
IsLastBelow bound n ns None = (k : ℕ) → k < bound → slice_index ns k ≢ n
IsLastBelow bound n ns (Some j) = IsLastAt j bound n ns

-- each change has its link: the last earlier place of its record number
pub record IsLinked (changes : List Change) (links : List (Option ℕ)) : Type 0 where
  pub count : length links ≡ length changes
  pub each : (i : ℕ) → i < length changes
      → IsLastBelow i (slice_index (numbers changes) i) (numbers changes)
      (slice_index_or links i None)
