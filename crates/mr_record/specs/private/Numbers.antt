-- The numbers that were read so far.
use Rattle.std.specs.Prelude.{◌≡◌, ℕ, ◌<◌, List, IfSome, All}
use Rattle.std.specs.BTreeSet.{BTreeSet, contains}
use Rattle.std.specs.Ordering.{nat_cmp}
use Rattle.mr_record.specs.declared.numbers.Numbers.{Numbers}
use Rattle.mr_record.specs.declared.record.Record.{Record}
use Rattle.mr_record.specs.RecordText.{has_number}

-- the set has just the numbers of the records
abbrev pub HoldsNumbers : BTreeSet ℕ → List Record → Type 0
HoldsNumbers numbers records = (n : ℕ) → contains nat_cmp numbers n ≡ has_number n records

-- all numbers of the records are below the end, and a set that is kept has just them
pub record KnowsNumbers (numbers : Numbers) (records : List Record) : Type 0 where
  pub low : All (λ (r : Record). r.number < numbers.end) records
  pub set : IfSome numbers.set (λ s. HoldsNumbers s records)
