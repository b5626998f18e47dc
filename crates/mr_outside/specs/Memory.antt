-- A shelf and a sink in memory as their callers see them, with calls that fail by their number.
use Rattle.std.specs.Prelude.{ℕ, ◌/◌, Bool, List, length, take, Some, ◌==◌, map, if◌then◌else◌, refl, string_bytes, String}
use Rattle.std.specs.List.{list_any}
use Rattle.std.specs.Coded.{Coded, code_by, coded×, coded_ℕ, coded_list}
use Rattle.std.specs.FinMap as finite
use Rattle.std.specs.BTreeMap.{BTreeMap}
use Rattle.std.specs.declared.alloc.Global.{Global}
use Rattle.mr_outside.specs.Files.{Files}
use Rattle.mr_outside.specs.Faults.{next_count}
use Rattle.mr_outside.specs.declared.held.Held.{Held}
use Rattle.mr_outside.specs.State.{Shelved, Sunk}

-- calls that are numbered from 1
pub record NumberedCalls : Type 0 where
  -- the numbers of those that fail
  pub fail : List ℕ
  -- the number of the last one, or 0
  pub made : ℕ
  -- how many of them failed
  pub faults : ℕ

abbrev pub numbered_code : Coded NumberedCalls
numbered_code =
    code_by (List ℕ × (ℕ × ℕ)) (coded× (coded_list coded_ℕ) (coded× coded_ℕ coded_ℕ))
    (λ c. (c.fail, (c.made, c.faults)))
    (λ p. record { fail = p.0; made = p.1.0; faults = p.1.1 }) (λ _. refl)

-- no call was made
abbrev pub no_calls : List ℕ → NumberedCalls
no_calls fail = record { fail = fail; made = 0; faults = 0 }

-- the next call is one of those that fail
abbrev pub next_fails : NumberedCalls → Bool
next_fails c = list_any (λ n. n == next_count c.made) c.fail

-- the first half of the bytes, rounded down, which a call that fails writes of them
abbrev pub half_of : List ℕ → List ℕ
half_of bytes = take (length bytes / 2) bytes

-- after one more call
abbrev pub called : NumberedCalls → NumberedCalls
called c = record c {
  made = next_count c.made;
  faults = if next_fails c then next_count c.faults else c.faults;
}

pub record MemoryShelf : Type 0 where
  pub files : Files
  pub calls : NumberedCalls
  -- how many reads answered Ok
  pub reads : ℕ

abbrev pub shelf_code : Coded MemoryShelf
shelf_code =
    code_by (Files × (NumberedCalls × ℕ))
    (coded× (finite.code (coded_list coded_ℕ) (coded_list coded_ℕ)) (coded× numbered_code coded_ℕ))
    (λ s. (s.files, (s.calls, s.reads)))
    (λ p. record { files = p.0; calls = p.1.0; reads = p.1.1 }) (λ _. refl)

-- what the shelf tells
abbrev pub shelved : MemoryShelf → Shelved
shelved s = record { files = Some s.files; faults = s.calls.faults; reads = s.reads }

-- the files of a map from names to contents
abbrev pub files_of : BTreeMap (String Global) Held → Files
files_of m = finite.from_entries (map (λ e. (string_bytes e.0, e.1.cells.items)) m.entries)

pub record MemorySink : Type 0 where
  -- all bytes taken
  pub bytes : List ℕ
  pub calls : NumberedCalls

abbrev pub sink_code : Coded MemorySink
sink_code =
    code_by (List ℕ × NumberedCalls) (coded× (coded_list coded_ℕ) numbered_code)
    (λ s. (s.bytes, s.calls)) (λ p. record { bytes = p.0; calls = p.1 }) (λ _. refl)

-- what the sink tells
abbrev pub sunk : MemorySink → Sunk
sunk s = record { taken = Some s.bytes; faults = s.calls.faults }
