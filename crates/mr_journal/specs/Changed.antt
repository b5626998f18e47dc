-- The pages of a map that are other than in an earlier one.
use Rattle.std.specs.Prelude.{◌≡◌, ℕ, zero, suc, ◌+◌, ◌*◌, ◌≤◌, ◌^◌, ◌==◌, ◌||◌, not, bytes_eq, Bool, true, List, [], ◌∷◌, length, take, drop, if◌then◌else◌}
use Rattle.mr_journal.specs.Format.{Page, page_of, page_size, ready, carried, spelled_page, spelled}

-- the bytes of a page, as far as there are
abbrev pub page_in : (size number : ℕ) → List ℕ → List ℕ
page_in size number bytes = take size (drop (number * size) bytes)

-- the page is page 0, or is new or other than in the old map
abbrev pub is_changed : (size number : ℕ) → (old new : List ℕ) → Bool
is_changed size number old new = (number == 0) || not
    (bytes_eq (page_in size number old) (page_in size number new))

-- the changed ones of so many pages of the new map, from this number on
unfoldable pub changed : (size : ℕ) → (old new : List ℕ) → (number left : ℕ) → List Page
changed size old new number zero = []
changed size old new number (suc left) =
    if is_changed size number old new
    then page_of number (page_in size number new) ∷ changed size old new (number + 1) left
    else changed size old new (number + 1) left

-- the spelling of a page, if it is wanted
abbrev pub spelled_if : Bool → Page → List ℕ
spelled_if wanted page = if wanted then spelled_page page else []

-- a map of so many pages of this size that is no shorter than the old one
pub record IsLonger (size pages : ℕ) (old new : List ℕ) : Type 0 where
  pub some : 1 ≤ pages
  pub few : pages ≤ 2 ^ 20
  pub whole : length new ≡ pages * size
  pub longer : length old ≤ length new

-- The body puts the changed pages of the new map into the old one, which makes the new one of it.
pub record IsChange (version : ℕ) (old new body : List ℕ) : Type 0 where
  pub pages : ℕ
  pub whole : length new ≡ pages * page_size version
  pub is : body ≡ spelled version (changed (page_size version) old new 0 pages)
  pub fit : ready (length old) body ≡ true
  pub makes : carried body old ≡ new
