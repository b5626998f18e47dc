-- The greatest number of nodes that a tree has along a batch: counted at the beginning and after
-- each single insertion, those of the records that a deletion set aside included.
use Rattle.std.specs.Prelude.{ℕ, max, List, [], ◌∷◌}
use Rattle.mr_record.specs.Sorting.{sorted_by_key}
use Rattle.mr_record.specs.declared.record.Record.{Record}
use Rattle.mr_tree.specs.Tree.{nodes}
use Rattle.mr_tree.specs.declared.tree.Tree.{Tree}
use Rattle.mr_grow.specs.Grow.{ins}
use Rattle.mr_grow.specs.Shrink.{shrunk, shortened}
use Rattle.mr_batch.specs.declared.change.Change.{Change}
use Rattle.mr_batch.specs.declared.change.Change.TheVariants.{Add, Remove}
use Rattle.mr_batch.specs.Changes.{Changes}
use Rattle.mr_batch.specs.Replay.{changed}

-- the greatest so far, once these records were inserted one after the other
abbrev pub peak_in : (so_far : ℕ) → Tree → List Record → ℕ
peak_in so_far t [] = so_far
peak_in so_far t (r ∷ rs) = peak_in (max so_far (nodes (ins r t))) (ins r t) rs

-- the greatest so far, once the change was made
abbrev pub peak_after : (so_far : ℕ) → Tree → Change → ℕ
peak_after so_far t (Add r) = peak_in so_far t (r ∷ [])
peak_after so_far t (Remove n) =
    peak_in so_far (shortened (shrunk n t).tree)
    (sorted_by_key (λ (r : Record). r.number) (shrunk n t).aside)

-- the greatest so far, once the changes were made in their order
abbrev pub peak_along : (so_far : ℕ) → Tree → List Change → ℕ
peak_along so_far t [] = so_far
peak_along so_far t (c ∷ changes) = peak_along (peak_after so_far t c) (changed t c) changes

-- the greatest along a batch
abbrev pub peak : Tree → Changes → ℕ
peak t b = peak_along (nodes t) t b.list
