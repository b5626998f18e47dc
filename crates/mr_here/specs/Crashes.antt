-- What a crash during an update in place may leave.
use Rattle.std.specs.Prelude.{◌≡◌, ◌⊎◌, List, ℕ, Option, IsSomeAnd}
use Rattle.mr_journal.specs.Images.{Image, DiskState}
use Rattle.mr_journal.specs.Moments.{ImagesSince}
use Rattle.mr_journal.specs.Format.{restored}
use Rattle.mr_journal.specs.States.{IsSettledAt}

-- the old bytes of a map and the new ones
abbrev pub Makes : Type 1
Makes = List ℕ → List ℕ → Type 0

-- the image restores to this map, or to what is made of it
abbrev pub IsMadeOf : Makes → List ℕ → Image → Type 0
IsMadeOf makes map image = (restored image ≡ map) ⊎ makes map (restored image)

-- it is settled at what is made of this map
pub record IsDoneBy (makes : Makes) (map : List ℕ) (contents : Option Image) (image : Image)
    : Type 0 where
  pub made : List ℕ
  pub given : makes map made
  pub settled : IsSettledAt made contents image

-- it restores to what an image of this moment restores to, or to what is made of that
abbrev pub BecomesBy : Makes → DiskState → ImagesSince → Image → Type 0
BecomesBy makes at now image = (d : Image) × now at.clock d × IsMadeOf makes (restored d) image

-- it is settled at what is made of the restored map
abbrev pub EndsBy : Makes → Option Image → Option Image → Image → Type 0
EndsBy makes before after image = IsSomeAnd before (λ k. IsDoneBy makes (restored k) after image)
