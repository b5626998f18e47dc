-- What is known of an object outside: all that it holds where it tells, and nothing where it does
-- not.
use Rattle.std.specs.Prelude.{◌≡◌, ℕ, List, ◌++◌, Option, Some, None, option_map, MatchOption, ⊤}
use Rattle.mr_outside.specs.Bytes.{AreBytes}
use Rattle.mr_outside.specs.Files.{Files, file}
use Rattle.mr_outside.specs.Faults.{Rose}
use Rattle.mr_outside.specs.State.{Sunk}

-- P of the files, where they are told
abbrev pub OfFiles : Option Files → (Files → Type 0) → Type 0
OfFiles None P = ⊤
OfFiles (Some files) P = P files

-- where the files are told: P where the name is absent, Q of the file's bytes where it is there
abbrev pub OfFile : Option Files → List ℕ → Type 0 → (List ℕ → Type 0) → Type 0
OfFile told name P Q = OfFiles told (λ files. MatchOption (file files name) P Q)

-- each file that is told is of bytes
abbrev pub HoldBytes : Option Files → Type 0
HoldBytes told = (name : List ℕ) → OfFile told name ⊤ AreBytes

-- why a call on this name may answer that there is no such file: it is told and absent, or a fault
-- was counted
abbrev pub MayMiss : Option Files → List ℕ → ℕ → ℕ → Type 0
MayMiss None name before now = Rose before now
MayMiss (Some files) name before now = file files name ≡ None

-- these bytes went to the end of what was taken, where that is told; and it is told after as before
abbrev pub TakesBytes : Sunk → Sunk → List ℕ → Type 0
TakesBytes before after bytes = after.taken ≡ option_map (λ taken. taken ++ bytes) before.taken

-- some front of these bytes was taken, possibly all or none
pub record TakesFront (before after : Sunk) (bytes : List ℕ) : Type 0 where
  pub front : List ℕ
  pub rest : List ℕ
  pub whole : bytes ≡ front ++ rest
  pub takes : TakesBytes before after front
