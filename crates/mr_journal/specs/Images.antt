-- The two areas of a disk, and what is known of it at one moment.
use Rattle.std.specs.Prelude.{◌≡◌, ℕ, List, Bool, Option}
use Rattle.mr_journal.specs.declared.disk.Area.{Area}
use Rattle.mr_journal.specs.declared.disk.Area.TheVariants.{Map, Journal}
use Rattle.mr_outside.specs.Files.{replaced}

-- the bytes of both areas
pub record Image : Type 0 where
  pub map : List ℕ
  pub journal : List ℕ

pub record DiskState : Type 0 where
  -- what a read gives, where it is told
  pub contents : Option Image
  -- whether it is told what a crash may leave
  pub tells_images : Bool
  -- how many faults there were
  pub faults : ℕ
  -- a number that does not fall
  pub clock : ℕ

abbrev pub part : Area → Image → List ℕ
part Map image = image.map
part Journal image = image.journal

abbrev pub with_part : Area → List ℕ → Image → Image
with_part Map bytes image = record image { map = bytes }
with_part Journal bytes image = record image { journal = bytes }

-- these bytes stand in the area in place of those from this place on
abbrev pub written : Area → ℕ → List ℕ → Image → Image
written area place bytes image = with_part area (replaced place bytes (part area image)) image

-- a step in one area, and nothing in the other
abbrev pub InArea : Area → (List ℕ → List ℕ → Type 0) → Image → Image → Type 0
InArea Map step old new = step old.map new.map × (new.journal ≡ old.journal)
InArea Journal step old new = step old.journal new.journal × (new.map ≡ old.map)

-- nothing happens
abbrev pub Unchanged : Image → Image → Type 0
Unchanged old new = new ≡ old
