-- The tree after batches: their changes are made one after the other, by insertion and deletion.
use Rattle.std.specs.Prelude.{◌≡◌, List, [], ◌∷◌, Some}
use Rattle.std.specs.List.Sorted.{IsPermutation}
use Rattle.mr_record.specs.declared.record.Record.{Record}
use Rattle.mr_tree.specs.declared.tree.Tree.{Tree}
use Rattle.mr_grow.specs.Grow.{ins}
use Rattle.mr_grow.specs.Shrink.{del}
use Rattle.mr_batch.specs.declared.change.Change.{Change}
use Rattle.mr_batch.specs.declared.change.Change.TheVariants.{Add, Remove}
use Rattle.mr_batch.specs.Changes.{Changes}
use Rattle.mr_batch.specs.Applied.{applied}

-- the tree after a change
abbrev pub changed : Tree → Change → Tree
changed t (Add r) = ins r t
changed t (Remove n) = del n t

-- the tree after changes in their order
unfoldable pub replayed : Tree → List Change → Tree
replayed t [] = t
replayed t (c ∷ changes) = replayed (changed t c) changes

-- the tree after batches in their order
abbrev pub replay : Tree → List Changes → Tree
replay t [] = t
replay t (b ∷ batches) = replay (replayed t b.list) batches

-- the changes may be made to the records, and these are what they leave, in some order
pub record LeavesRecords (before : List Record) (changes : List Change) (after : List Record)
    : Type 0 where
  pub list : List Record
  pub makes : applied before changes ≡ Some list
  pub same : IsPermutation list after
