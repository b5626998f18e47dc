-- What remains of a list that is taken apart, in any order. An item's number is its place in the
-- whole list.
use Rattle.std.specs.Prelude.{ℕ, ◌≡◌, ◌<◌, List, length, slice_index_or, map}

-- each of so many places has a number, and a number that is there has its place kept
pub record IsIndexed (count : ℕ) (numbers places : List ℕ) : Type 0 where
  pub as_many : length numbers ≡ count
  pub inside : (k : ℕ) → k < length numbers → slice_index_or numbers k 0 < length places
  pub found : (k : ℕ) → k < length numbers →
      slice_index_or places (slice_index_or numbers k 0) 0 ≡ k

-- the item at each place is the one of the whole list that has its number
abbrev pub AreNumbered : {T : Type 0} → (whole items : List T) → (numbers : List ℕ) → Type 0
AreNumbered {T} whole items numbers =
    (k : ℕ) (d : T) → k < length items →
    slice_index_or items k d ≡ slice_index_or whole (slice_index_or numbers k 0) d

-- the items with these numbers
abbrev pub picked : {T : Type 0} → (whole : List T) → T → List ℕ → List T
picked whole d numbers = map (λ n. slice_index_or whole n d) numbers
