-- What calls of a disk over two files leave of the files.
use Rattle.std.specs.Prelude.{◌≡◌, ◌≢◌, ℕ, List, ◌++◌, Option, Some, None, Result, OnOk}
use Rattle.mr_outside.specs.Files.{Files, file, replaced}
use Rattle.mr_journal.specs.Shelves.{bytes_or_none}
use Rattle.mr_journal.specs.declared.disk.Area.{Area}
use Rattle.mr_journal.specs.declared.disk.Area.TheVariants.{Map, Journal}
use Rattle.mr_journal.specs.declared.disk.DiskErr.{DiskErr}

abbrev pub name_of : Area → (map journal : List ℕ) → List ℕ
name_of Map map journal = map
name_of Journal map journal = journal

-- each file but this one is as before
abbrev pub KeepsRest : List ℕ → Files → Files → Type 0
KeepsRest name before after = (q : List ℕ) → q ≢ name → file after q ≡ file before q

-- the bytes of the named file are changed, absent ones counting as none, and each other file is as
-- before
abbrev pub ChangesFile : (name : List ℕ) → (List ℕ → List ℕ) → Option Files → Option Files → Type 0
ChangesFile name change None after = after ≡ None
ChangesFile name change (Some files) after = (new : Files) × (after ≡ Some new)
    × (bytes_or_none new name ≡ change (bytes_or_none files name)) × KeepsRest name files new

-- some front of these bytes stands in the file from this place on, and each other file is as before
pub record WritesFront (name : List ℕ) (at : ℕ) (bytes : List ℕ) (before after : Option Files)
    : Type 0 where
  pub front : List ℕ
  pub rest : List ℕ
  pub whole : bytes ≡ front ++ rest
  pub turns : ChangesFile name (replaced at front) before after

-- all of them where it answers, and else some front
pub record WritesBytes {A : Type 0} (name : List ℕ) (at : ℕ) (bytes : List ℕ)
    (before after : Option Files) (result : Result A DiskErr) : Type 0 where
  pub done : OnOk result (ChangesFile name (replaced at bytes) before after)
  pub front : WritesFront name at bytes before after

-- some front of these bytes stands behind those of the file
pub record AppendsFront (name bytes : List ℕ) (before after : Option Files) : Type 0 where
  pub front : List ℕ
  pub rest : List ℕ
  pub whole : bytes ≡ front ++ rest
  pub turns : ChangesFile name (λ held. held ++ front) before after
