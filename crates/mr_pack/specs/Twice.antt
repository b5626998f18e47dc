-- Why records are not packed.
use Rattle.std.specs.Prelude.{⊤, ℕ, List, map}
use Rattle.mr_record.specs.declared.record.Record.{Record}
use Rattle.mr_pack.specs.Repeats.{IsLeastTwice}
use Rattle.mr_pack.specs.declared.load.PackErr.{PackErr}
use Rattle.mr_pack.specs.declared.load.PackErr.TheVariants.{NumberTwice, NoMemory}

-- the numbers of some records
abbrev pub numbers_of : List Record → List ℕ
numbers_of records = map (λ (r : Record). r.number) records

-- two records have one number, and the refusal names the least such number; or memory ran out
abbrev pub IsPackCause : PackErr → List Record → Type 0
IsPackCause (NumberTwice n) records = IsLeastTwice n (numbers_of records)
IsPackCause NoMemory records = ⊤
