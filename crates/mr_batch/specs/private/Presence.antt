-- The same by which numbers are there and how many.
use Rattle.std.specs.Prelude.{ℕ, ◌+◌, ◌-◌, ◌==◌, nat_le, Bool, true, false, if◌then◌else◌, List, [], ◌∷◌, Option, Some, None, is_some}
use Rattle.mr_tree.specs.Limits.{count_limit}
use Rattle.mr_batch.specs.declared.change.Change.{Change}
use Rattle.mr_batch.specs.declared.change.Change.TheVariants.{Add, Remove}
use Rattle.mr_batch.specs.declared.admission.BatchFault.{BatchFault}
use Rattle.mr_batch.specs.declared.admission.BatchFault.TheVariants.{OutOfOrder, Present, Absent, Full}
use Rattle.mr_batch.specs.Changes.{Changes, named}
use Rattle.mr_batch.specs.Admissible.{or_else}
use Rattle.mr_batch.specs.Directory.{DirectoryEntries, rect_at}

-- the change is an addition
abbrev pub adds : Change → Bool
adds (Add r) = true
adds (Remove n) = false

-- whether a number is there after a change
abbrev pub after : (ℕ → Bool) → Change → ℕ → Bool
after has c n = if named c == n then adds c else has n

-- whether a number is there after the changes
abbrev pub after_all : (ℕ → Bool) → List Change → ℕ → Bool
after_all has [] n = has n
after_all has (c ∷ changes) n = after_all (after has c) changes n

-- how many are there after a change that may be made
abbrev pub count_after : ℕ → Change → ℕ
count_after count (Add r) = count + 1
count_after count (Remove n) = count - 1

-- why the change may not be made, by whether its number is there and how many are
abbrev pub hindered : Bool → ℕ → ℕ → Change → Option BatchFault
hindered present count line (Add r) =
    if present then Some (Present line)
    else if nat_le count_limit count then Some (Full line)
    else None
hindered present count line (Remove n) = if present then None else Some (Absent line)

-- the first of the changes that may not be made in its turn
unfoldable pub first_hindered : (ℕ → Bool) → ℕ → ℕ → List Change → Option BatchFault
first_hindered has count line [] = None
first_hindered has count line (c ∷ changes) =
    or_else (hindered (has (named c)) count line c)
    (first_hindered (after has c) (count_after count c) (line + 1) changes)

-- why the batch may not be applied
abbrev pub fault_by : (ℕ → Bool) → ℕ → ℕ → Changes → Option BatchFault
fault_by has count held b =
    if b.number == held + 1 then first_hindered has count 2 b.list
    else Some (OutOfOrder held b.number)

-- the map has the number
abbrev pub knows : DirectoryEntries → ℕ → Bool
knows entries n = is_some (rect_at entries n)
