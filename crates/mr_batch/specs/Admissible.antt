-- Why a batch may not be applied to some records: the first cause.
use Rattle.std.specs.Prelude.{ℕ, ◌+◌, ◌==◌, nat_le, if◌then◌else◌, List, [], ◌∷◌, length, Option, Some, None}
use Rattle.mr_record.specs.declared.record.Record.{Record}
use Rattle.mr_record.specs.RecordText.{has_number}
use Rattle.mr_tree.specs.Limits.{count_limit}
use Rattle.mr_batch.specs.declared.change.Change.{Change}
use Rattle.mr_batch.specs.declared.change.Change.TheVariants.{Add, Remove}
use Rattle.mr_batch.specs.declared.admission.BatchFault.{BatchFault}
use Rattle.mr_batch.specs.declared.admission.BatchFault.TheVariants.{OutOfOrder, Present, Absent, Full}
use Rattle.mr_batch.specs.Changes.{Changes}
use Rattle.mr_batch.specs.Applied.{made}

-- what is there, else the other
abbrev pub or_else : {A : Type 0} → Option A → Option A → Option A
or_else (Some x) other = Some x
or_else None other = other

-- why the change on the line may not be made to the records, if it may not
abbrev pub hindrance : List Record → ℕ → Change → Option BatchFault
hindrance records line (Add r) =
    if has_number r.number records then Some (Present line)
    else if nat_le count_limit (length records) then Some (Full line)
    else None
hindrance records line (Remove n) = if has_number n records then None else Some (Absent line)

-- the first of the changes on the lines from this one on that may not be made in its turn, and why
unfoldable pub first_hindrance : List Record → ℕ → List Change → Option BatchFault
first_hindrance records line [] = None
first_hindrance records line (c ∷ changes) =
    or_else (hindrance records line c) (first_hindrance (made records c) (line + 1) changes)

-- Why the batch may not be applied to the records at the held number, if it may not. The head is
-- line 1.
abbrev pub batch_fault : List Record → ℕ → Changes → Option BatchFault
batch_fault records held b =
    if b.number == held + 1 then first_hindrance records 2 b.list
    else Some (OutOfOrder held b.number)
