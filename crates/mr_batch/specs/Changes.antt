-- A batch of changes.
use Rattle.std.specs.Prelude.{⊤, ℕ, List, map}
use Rattle.mr_record.specs.Record.{HasLayer}
use Rattle.mr_record.specs.declared.version.Version.TheVariants.{Two}
use Rattle.mr_batch.specs.declared.change.Change.{Change}
use Rattle.mr_batch.specs.declared.change.Change.TheVariants.{Add, Remove}

-- the number of a batch, and its changes in the order in which they are made
pub record Changes : Type 0 where
  pub number : ℕ
  pub list : List Change

-- the number of the record that comes or goes
abbrev pub named : Change → ℕ
named (Add r) = r.number
named (Remove n) = n

-- a record that comes has a layer that there is
abbrev pub IsLayered : Change → Type 0
IsLayered (Add r) = HasLayer Two r
IsLayered (Remove n) = ⊤

-- the record numbers of the changes
abbrev pub numbers : List Change → List ℕ
numbers changes = map named changes
