-- The states of an image between the steps of one change in place.
use Rattle.std.specs.Prelude.{◌≡◌, ℕ, ◌+◌, true, false, List, ◌∷◌, ◌++◌, length, drop}
use Rattle.mr_journal.specs.Images.{Image}
use Rattle.mr_journal.specs.Format.{ready, carried}

-- all but the first two bytes of the journal
abbrev pub behind : Image → Image
behind image = record image { journal = drop 2 image.journal }

-- the journal has this body behind its open gate, and what goes further stays
abbrev pub opened_by : List ℕ → Image → Image
opened_by body image = record image {
  journal = 79 ∷ (body ++ drop (1 + length body) image.journal);
}

-- the pages of this body are in the map
abbrev pub carried_by : List ℕ → Image → Image
carried_by body image = record image { map = carried body image.map }

-- and the gate is 00
abbrev pub closed_by : List ℕ → Image → Image
closed_by body image = record {
  map = carried body image.map;
  journal = 0 ∷ drop 1 image.journal;
}

-- the journal has this gate, and this behind it
pub record HasGate (gate : ℕ) (image : Image) : Type 0 where
  pub body : List ℕ
  pub is : image.journal ≡ gate ∷ body

-- the map is this one, and byte 0 of the journal is 00, so that it is shut
pub record IsClearedAt (map : List ℕ) (image : Image) : Type 0 where
  pub map_is : image.map ≡ map
  pub gate : HasGate 0 image

-- the map is this one, and the journal would not be open whatever byte 0 is
pub record IsInvalidAt (map : List ℕ) (image : Image) : Type 0 where
  pub map_is : image.map ≡ map
  pub whatever : (gate : ℕ) (body : List ℕ) → image.journal ≡ gate ∷ body
      → ready (length map) body ≡ false

-- the journal has this gate, then this body, and then what is ignored
pub record HasBody (gate : ℕ) (body : List ℕ) (image : Image) : Type 0 where
  pub rest : List ℕ
  pub is : image.journal ≡ gate ∷ (body ++ rest)

-- the map is this one, and the journal has this body behind byte 00: with 4f there it would be
-- armed for what the body makes of the map, if it may be put into that
pub record IsFilledBy (body map : List ℕ) (image : Image) : Type 0 where
  pub map_is : image.map ≡ map
  pub filled : HasBody 0 body image

-- armed by this body, which makes this map of that of the image
pub record IsArmedBy (body map : List ℕ) (image : Image) : Type 0 where
  pub open_by : HasBody 79 body image
  pub fit : ready (length image.map) body ≡ true
  pub makes : carried body image.map ≡ map

-- armed by this body, whose pages are in the map
pub record IsCarriedBy (body map : List ℕ) (image : Image) : Type 0 where
  pub armed : IsArmedBy body map image
  pub map_is : image.map ≡ map
