-- What is known of a shelf and of a sink at one moment.
use Rattle.std.specs.Prelude.{ℕ, List, Option}
use Rattle.mr_outside.specs.Files.{Files}

pub record Shelved : Type 0 where
  -- the files, where they are told
  pub files : Option Files
  -- how many faults there were
  pub faults : ℕ
  -- how many reads were answered
  pub reads : ℕ

pub record Sunk : Type 0 where
  -- all bytes taken so far, where they are told
  pub taken : Option (List ℕ)
  -- how many faults there were
  pub faults : ℕ
