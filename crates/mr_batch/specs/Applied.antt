-- What the changes of a batch make of a list of records.
use Rattle.std.specs.Prelude.{◌≡◌, ℕ, ◌+◌, ◌==◌, ◌&&◌, not, nat_lt, Bool, if◌then◌else◌, List, [], ◌∷◌, ◌++◌, length, filter, Option, Some, None, IsSome}
use Rattle.mr_record.specs.declared.record.Record.{Record}
use Rattle.mr_record.specs.RecordText.{has_number}
use Rattle.mr_tree.specs.Limits.{count_limit}
use Rattle.mr_batch.specs.declared.change.Change.{Change}
use Rattle.mr_batch.specs.declared.change.Change.TheVariants.{Add, Remove}
use Rattle.mr_batch.specs.Changes.{Changes}

-- the records without the one that has the number
abbrev pub without : ℕ → List Record → List Record
without n records = filter (λ r. not (r.number == n)) records

-- the change may be made: the number is new and there is room for one record more; or it is there
abbrev pub may_make : List Record → Change → Bool
may_make records (Add r) = not (has_number r.number records) && nat_lt (length records) count_limit
may_make records (Remove n) = has_number n records

-- the records after the change
abbrev pub made : List Record → Change → List Record
made records (Add r) = records ++ r ∷ []
made records (Remove n) = without n records

-- the records after the changes in their order, if each may be made
unfoldable pub applied : List Record → List Change → Option (List Record)
applied records [] = Some records
applied records (c ∷ changes) =
    if may_make records c then applied (made records c) changes else None

-- the batch is the next behind the held one, and each of its changes may be made
pub record IsAdmissible (records : List Record) (held : ℕ) (b : Changes) : Type 0 where
  pub next : b.number ≡ held + 1
  pub made : IsSome (applied records b.list)
