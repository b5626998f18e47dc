-- The parts of a journal's body as code reads them.
use Rattle.std.specs.Prelude.{◌≡◌, ◌≤◌, ◌==◌, ℕ, ◌*◌, List, [], ◌∷◌, Option, Some, None, if◌then◌else◌}
use Rattle.mr_journal.specs.Images.{Image}
use Rattle.mr_journal.specs.Torn.{Range}
use Rattle.mr_journal.specs.Format.{Page, entries, pages_fit, put_pages, ready, carried}

-- where these pages stand in a map
abbrev pub places : ℕ → List Page → List Range
places size [] = []
places size (page ∷ pages) = (page.number * size, size) ∷ places size pages

-- the first of these bytes, where there is one
abbrev pub first_of : List ℕ → Option ℕ
first_of [] = None
first_of (first ∷ rest) = Some first

-- what is read of a journal: all of one whose gate is 4f, nothing behind another gate
abbrev pub gated : List ℕ → List ℕ
gated [] = []
gated (gate ∷ body) = if gate == 79 then gate ∷ body else []

-- The parts of a body whose version and number of entries may be.
pub record IsParsed (body : List ℕ) (size count : ℕ) (bytes : List ℕ) : Type 0 where
  pub small : (1 ≤ size) × (size ≤ 8192)
  pub large : 4096 ≤ size
  pub some : 1 ≤ count
  pub fits : (n : ℕ) → ready n body ≡ pages_fit size 0 n (entries size count bytes)
  pub makes : (map : List ℕ) → carried body map ≡ put_pages size (entries size count bytes) map

abbrev pub with_pages : ℕ → List Page → Image → Image
with_pages size pages image = record image { map = put_pages size pages image.map }
