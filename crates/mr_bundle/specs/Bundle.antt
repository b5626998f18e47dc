-- A bundle: proofs in order, each behind its length, and how its parts are read again.
use Rattle.std.specs.Prelude.{◌≡◌, ℕ, zero, suc, ◌+◌, ◌^◌, ◌<◌, ◌≤◌, nat_le, nat_lt, ◌&&◌, if◌then◌else◌, List, [], ◌∷◌, ◌++◌, length, map, take, drop, slice_range, All, Option, Some, None, flat_map}
use Rattle.std.specs.Int.{w32, from_be_bytes, to_be_bytes}
use Rattle.mr_bundle.specs.declared.reading.Part.{Part}

-- ---- what is written

-- a proof behind its length, which takes four bytes
abbrev pub part_bytes : List ℕ → List ℕ
part_bytes proof = to_be_bytes w32 (length proof) ++ proof

-- the bundle of some proofs
unfoldable pub bundle_of : List (List ℕ) → List ℕ
bundle_of proofs = flat_map part_bytes proofs

-- a length that four bytes say
abbrev pub IsShort : List ℕ → Type 0
IsShort proof = length proof < 2 ^ 32

-- ---- what is read

-- the parts that are whole, in order, and the place where reading stopped, if it did
pub record Cutting : Type 0 where
  pub list : List Part
  pub broken : Option ℕ

-- the length that the four bytes from this place on say
abbrev pub size_at : List ℕ → (at : ℕ) → ℕ
size_at bytes at = from_be_bytes w32 (take 4 (drop at bytes))

-- where the part ends whose length stands at this place
abbrev pub end_at : List ℕ → (at : ℕ) → ℕ
end_at bytes at = at + 4 + size_at bytes at

-- that part, where it is whole: four bytes of length are there, and as many bytes as they say
unfoldable pub part_at : List ℕ → (at : ℕ) → Option Part
part_at bytes at =
    if nat_le (at + 4) (length bytes) && nat_le (end_at bytes at) (length bytes)
    then Some (record { start = at + 4; end = end_at bytes at }) else None

-- the part and those behind it, by where it ends; where it is not whole, reading stops
abbrev pub go_on : (at : ℕ) → Option Part → (ℕ → Cutting) → Cutting
go_on at None rest = record { list = []; broken = Some at }
go_on at (Some part) rest =
    record { list = part ∷ (rest part.end).list; broken = (rest part.end).broken }

-- The parts for so many queries, from this place on. Bytes that are left behind the last part break
-- the bundle where they begin.
unfoldable pub parts_from : List ℕ → (queries at : ℕ) → Cutting
parts_from bytes zero at =
    record { list = []; broken = if nat_lt at (length bytes) then Some at else None }
parts_from bytes (suc queries) at = go_on at (part_at bytes at) (parts_from bytes queries)

-- the parts of a bundle for so many queries
abbrev pub parts : List ℕ → (queries : ℕ) → Cutting
parts bytes queries = parts_from bytes queries 0

-- ---- what lies in a part

-- the part lies in a bundle of this length
pub record LiesIn (size : ℕ) (part : Part) : Type 0 where
  pub ordered : part.start ≤ part.end
  pub within : part.end ≤ size

-- its bytes
abbrev pub bytes_of : List ℕ → Part → List ℕ
bytes_of bundle part = slice_range bundle part.start part.end

-- what some parts hold
abbrev pub bytes_of_parts : List ℕ → List Part → List (List ℕ)
bytes_of_parts bundle parts = map (bytes_of bundle) parts

-- ---- both ways

-- the bytes are the bundle of these proofs, one for each of so many queries
pub record IsBundleOf (bytes : List ℕ) (queries : ℕ) (proofs : List (List ℕ)) : Type 0 where
  pub count : length proofs ≡ queries
  pub short : All IsShort proofs
  pub spelled : bytes ≡ bundle_of proofs

-- where reading stopped, or behind the last byte
abbrev pub stopped_at : List ℕ → (broken : Option ℕ) → ℕ
stopped_at bytes None = length bytes
stopped_at bytes (Some at) = at

-- The bytes before that are the bundle of what the parts hold: all of them where nothing is broken,
-- and else those of the parts that are whole, so that the place is the length of their bundle.
pub record IsFrontOf (bytes : List ℕ) (list : List Part) (broken : Option ℕ) : Type 0 where
  pub short : All IsShort (bytes_of_parts bytes list)
  pub front : take (stopped_at bytes broken) bytes ≡ bundle_of (bytes_of_parts bytes list)
  pub place : stopped_at bytes broken ≡ length (bundle_of (bytes_of_parts bytes list))

-- nothing is broken, and these proofs are what the parts hold
pub record AreRead (bytes : List ℕ) (list : List Part) (broken : Option ℕ)
    (proofs : List (List ℕ)) : Type 0 where
  pub whole : broken ≡ None
  pub held : bytes_of_parts bytes list ≡ proofs
