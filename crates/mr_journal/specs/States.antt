-- The states of an image on the way of a change in place.
use Rattle.std.specs.Prelude.{◌≡◌, ◌⊎◌, ℕ, true, false, List, Option, Some}
use Rattle.mr_journal.specs.Images.{Image, DiskState}
use Rattle.mr_journal.specs.Moments.{ImagesSince}
use Rattle.mr_journal.specs.Format.{is_open, restored}

-- the map is this one, and the journal isn't open
pub record IsShutAt (map : List ℕ) (image : Image) : Type 0 where
  pub map_is : image.map ≡ map
  pub shut : is_open image ≡ false

-- the journal is open, and the image restores to this map
pub record IsArmedFor (map : List ℕ) (image : Image) : Type 0 where
  pub armed : is_open image ≡ true
  pub restores : restored image ≡ map

-- shut at this map, and the contents are this image
pub record IsSettledAt (map : List ℕ) (contents : Option Image) (image : Image) : Type 0 where
  pub shut : IsShutAt map image
  pub is : contents ≡ Some image

-- it restores to what an image of this moment restores to
abbrev pub RestoresAs : DiskState → ImagesSince → Image → Type 0
RestoresAs at now image = (d : Image) × now at.clock d × (restored image ≡ restored d)

abbrev pub EitherOf : (Image → Type 0) → (Image → Type 0) → Image → Type 0
EitherOf P Q image = P image ⊎ Q image
