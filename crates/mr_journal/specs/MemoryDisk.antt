-- What a disk in memory holds, and what a crash may leave of it, by the calls that it keeps.
use Rattle.std.specs.Prelude.{◌≡◌, ◌⊎◌, ℕ, ◌≤◌, ◌==◌, Bool, true, false, IsTrue, List, [], ◌∷◌, ◌++◌, length, take, fold, Some, Result, IsErrOf, if◌then◌else◌}
use Rattle.std.specs.List.{list_any}
use Rattle.mr_outside.specs.Files.{replaced}
use Rattle.mr_outside.specs.Faults.{next_count}
use Rattle.mr_outside.specs.Memory.{half_of}
use Rattle.mr_journal.specs.declared.disk.Area.{Area}
use Rattle.mr_journal.specs.declared.disk.Area.TheVariants.{Map, Journal}
use Rattle.mr_journal.specs.declared.disk.DiskErr.{DiskErr}
use Rattle.mr_journal.specs.declared.disk.DiskErr.TheVariants.{Fault, NoMemory}
use Rattle.mr_journal.specs.declared.mem_disk.MemDisk.{MemDisk}
use Rattle.mr_journal.specs.declared.mem_disk.Call.{Call}
use Rattle.mr_journal.specs.declared.mem_disk.Call.TheVariants.{Asked, Wrote, Synced}
use Rattle.mr_journal.specs.Images.{Image, DiskState}
use Rattle.mr_journal.specs.Torn.{Range, Torn}

-- one area, since its last sync that answered
pub record AreaState : Type 0 where
  -- what a read gives
  pub held : List ℕ
  -- what it gave at the last sync
  pub synced : List ℕ
  -- the ranges that writes touched since
  pub touched : List Range

-- all of it is synced
abbrev pub at_rest : List ℕ → AreaState
at_rest bytes = record { held = bytes; synced = bytes; touched = [] }

abbrev pub same_area : Area → Area → Bool
same_area Map Map = true
same_area Map Journal = false
same_area Journal Map = false
same_area Journal Journal = true

-- what a write carries out of its bytes
abbrev pub carried_out : Bool → List ℕ → List ℕ
carried_out whole bytes = if whole then bytes else half_of bytes

abbrev pub wrote : ℕ → List ℕ → Bool → AreaState → AreaState
wrote place bytes whole s = record s {
  held = replaced place (carried_out whole bytes) s.held;
  touched = (place, length bytes) ∷ s.touched;
}

-- what a call does to an area
abbrev pub change : Area → AreaState → Call → AreaState
change area s Asked = s
change area s (Wrote w) = if same_area w.area area then wrote w.at w.bytes.items w.whole s else s
change area s (Synced a) = if same_area a area then at_rest s.held else s

-- an area after these calls, which began with these bytes
unfoldable pub area_after : Area → List ℕ → List Call → AreaState
area_after area first calls = fold (change area) (at_rest first) calls

-- what a read gives after these calls
abbrev pub contents_after : Image → List Call → Image
contents_after first calls = record {
  map = (area_after Map first.map calls).held;
  journal = (area_after Journal first.journal calls).held;
}

-- what a crash may leave of an area
abbrev pub MayBeLeft : AreaState → List ℕ → Type 0
MayBeLeft s = Torn s.touched s.synced

-- what a crash may leave after these calls
abbrev pub IsImage : Image → List Call → Image → Type 0
IsImage first calls image = MayBeLeft (area_after Map first.map calls) image.map
    × MayBeLeft (area_after Journal first.journal calls) image.journal

-- what the disk tells
abbrev pub memory_state : Image → List Call → ℕ → DiskState
memory_state first calls faults = record {
  contents = Some (contents_after first calls);
  tells_images = true;
  faults = faults;
  clock = length calls;
}

-- what a crash after at least so many calls may have left
abbrev pub left_since : Image → List Call → ℕ → Image → Type 0
left_since first calls t image = (k : ℕ) × (t ≤ k) × (k ≤ length calls)
    × IsImage first (take k calls) image

abbrev pub first_image : List ℕ → List ℕ → Image
first_image map journal = record { map = map; journal = journal }

-- a disk in memory
pub record MemoryParts : Type 0 where
  -- what it had at first
  pub first : Image
  -- the numbers of the calls that fail
  pub fail : List ℕ
  -- the calls that were made
  pub calls : List Call
  -- how many of them failed
  pub faults : ℕ

abbrev pub parts_of : MemDisk → MemoryParts
parts_of d = record {
  first = first_image d.map.items d.journal.items;
  fail = d.fail.items;
  calls = d.calls.items;
  faults = d.faults;
}

abbrev pub contents_of : MemoryParts → Image
contents_of d = contents_after d.first d.calls

abbrev pub told_by : MemoryParts → DiskState
told_by d = memory_state d.first d.calls d.faults

abbrev pub images_by : MemoryParts → ℕ → Image → Type 0
images_by d = left_since d.first d.calls

-- The next call is one of those that fail. Calls are numbered from 1.
abbrev pub fails_next : MemoryParts → Bool
fails_next d = list_any (λ n. n == next_count (length d.calls)) d.fail

-- after this call, which is kept behind the others and counted where it failed
abbrev pub with_call : Call → MemoryParts → MemoryParts
with_call call d = record d {
  calls = d.calls ++ call ∷ [];
  faults = if fails_next d then next_count d.faults else d.faults;
}

-- a write of these bytes, whole or of the first half alone
abbrev pub IsWrite : Area → ℕ → List ℕ → Bool → Call → Type 0
IsWrite area at bytes whole Asked = ⊥
IsWrite area at bytes whole (Wrote w) =
    (w.area ≡ area) × (w.at ≡ at) × (w.bytes.items ≡ bytes) × (w.whole ≡ whole)
IsWrite area at bytes whole (Synced a) = ⊥

abbrev pub IsAsked : Call → Type 0
IsAsked call = call ≡ Asked

-- a sync of the area, which does nothing where it fails
abbrev pub IsSync : Area → Bool → Call → Type 0
IsSync area fails call = call ≡ (if fails then Asked else Synced area)

-- One call of a disk in memory: it fails just where it is to fail, and a call that has P is kept,
-- but where there was no memory. Then nothing is changed, and no number is used up.
pub record MakesCall {A : Type 0} (P : Call → Type 0) (before after : MemoryParts)
    (result : Result A DiskErr) : Type 0 where
  pub fails : IsErrOf result Fault → IsTrue (fails_next before)
  pub failing : IsTrue (fails_next before) → IsErrOf result Fault ⊎ IsErrOf result NoMemory
  pub keeps : (IsErrOf result NoMemory → ⊥)
      → (call : Call) × P call × (after ≡ with_call call before)
  pub unless : IsErrOf result NoMemory → after ≡ before
