-- What a call that writes leaves of the files.
use Rattle.std.specs.Prelude.{◌≡◌, ℕ, List, ◌++◌, Option, option_map, Result, OnOk, ⊤}
use Rattle.mr_outside.specs.Files.{Files}
use Rattle.mr_outside.specs.State.{Shelved}
use Rattle.mr_outside.specs.Told.{OfFile}
use Rattle.mr_outside.specs.declared.shelf.ShelfErr.{ShelfErr}

-- there is such a file, where the files are told
abbrev pub IsThere : Option Files → List ℕ → Type 0
IsThere told name = OfFile told name ⊥ (λ bytes. ⊤)

-- The files were changed by these bytes, where they are told; and they are told after as before.
-- By `with_file name` the named file now has these bytes.
abbrev pub IsChanged : (List ℕ → Files → Files) → List ℕ → Option Files → Option Files → Type 0
IsChanged change bytes before after = after ≡ option_map (change bytes) before

-- the files were changed by some front of these bytes, possibly all or none
pub record IsChangedPartly (change : List ℕ → Files → Files) (bytes : List ℕ)
    (before after : Option Files) : Type 0 where
  pub front : List ℕ
  pub rest : List ℕ
  pub whole : bytes ≡ front ++ rest
  pub changed : IsChanged change front before after

-- A call that changes the files by these bytes: by all of them where it answers, and by some front
-- of them where it is refused.
pub record WritesOrFront {A : Type 0} (change : List ℕ → Files → Files) (bytes : List ℕ)
    (before after : Shelved) (result : Result A ShelfErr) : Type 0 where
  pub whole : OnOk result (IsChanged change bytes before.files after.files)
  pub front : IsChangedPartly change bytes before.files after.files
  pub reads : after.reads ≡ before.reads
