-- How many pages the changes of a batch read at most. An insertion reads two on each of eight
-- levels, a node and a free page, and one free page more for a root above. A removal reads each
-- node of the tree twice at most, in its search and where it is freed, and then inserts the records
-- that it set aside. Once in a batch all nodes may be looked at, to note where records stand.
use Rattle.std.specs.Prelude.{ℕ, ◌+◌, ◌*◌, max, List, [], ◌∷◌, length}
use Rattle.mr_tree.specs.Tree.{nodes}
use Rattle.mr_tree.specs.declared.tree.Tree.{Tree}
use Rattle.mr_grow.specs.Shrink.{shrunk}
use Rattle.mr_batch.specs.declared.change.Change.{Change}
use Rattle.mr_batch.specs.declared.change.Change.TheVariants.{Add, Remove}
use Rattle.mr_batch.specs.Replay.{changed}

-- of one insertion
abbrev pub insertion_reads : ℕ
insertion_reads = 17

-- of one change
abbrev pub change_reads : Tree → Change → ℕ
change_reads t (Add r) = insertion_reads
change_reads t (Remove n) = 2 * nodes t + length (shrunk n t).aside * insertion_reads

-- of changes in their order
abbrev pub changes_reads : Tree → List Change → ℕ
changes_reads t [] = 0
changes_reads t (c ∷ changes) = change_reads t c + changes_reads (changed t c) changes

-- of a look at all nodes: with this change, if it is a removal, or with a later one, where it takes
-- so many; the greater of the two
abbrev pub look_reads : Tree → Change → (later : ℕ) → ℕ
look_reads t (Add r) later = later
look_reads t (Remove n) later = max (nodes t) later

-- the most that the one look may take, with whichever removal it comes
abbrev pub looks_reads : Tree → List Change → ℕ
looks_reads t [] = 0
looks_reads t (c ∷ changes) = look_reads t c (looks_reads (changed t c) changes)

-- of a batch
abbrev pub reads_along : Tree → List Change → ℕ
reads_along t changes = changes_reads t changes + looks_reads t changes
