-- The frame of a join's proof: the fields in which the proofs of both maps stand, and the first
-- rule that its bytes break.
use Rattle.std.specs.Prelude.{◌≡◌, ℕ, ◌<◌, ◌^◌, ◌==◌, nat_lt, nat_le, if◌then◌else◌, List, [], ◌∷◌, ◌++◌, length, take, drop, slice_index, bytes_eq, Option, Some, None, Result, Ok, Err}
use Rattle.std.specs.Int.{w32, from_be_bytes, to_be_bytes}
use Rattle.mr_geom.specs.Rectangle.{Rectangle, IsOrdered, FitsMap}
use Rattle.mr_record.specs.Record.{rectangle_bytes, rectangle_of_bytes}
use Rattle.mr_record.specs.Results.{◌>>=◌}
use Rattle.mr_join.specs.declared.fault.FrameRule.{FrameRule}
use Rattle.mr_join.specs.declared.fault.FrameRule.TheVariants as rule
use Rattle.mr_join.specs.declared.fault.JoinFault.{JoinFault}
use Rattle.mr_join.specs.declared.fault.JoinFault.TheVariants as faults

-- What a join's proof holds: the rectangle of the second map, where that is not empty; the proof of
-- the first map, of which there are no bytes where there is no rectangle; and that of the second
-- map.
pub record Frame : Type 0 where
  pub rect : Option Rectangle
  pub first : List ℕ
  pub second : List ℕ

-- `MRJN`
abbrev pub magic : List ℕ
magic = 77 ∷ 82 ∷ 74 ∷ 78 ∷ []

-- ---- reading

abbrev pub frame_fault : FrameRule → ℕ → JoinFault
frame_fault broken at = faults.Frame broken at

-- the field of so many bytes that stands at a place, and the bytes behind it
abbrev pub field : (size at : ℕ) → List ℕ → Result (List ℕ × List ℕ) JoinFault
field size at bytes =
    if nat_lt (length bytes) size then Err (frame_fault rule.Short at)
    else Ok (take size bytes, drop size bytes)

-- what is behind the magic
abbrev pub past_magic : List ℕ → Result (List ℕ) JoinFault
past_magic bytes =
    field 4 0 bytes >>= λ x. if bytes_eq x.0 magic then Ok x.1
    else Err (frame_fault rule.BadMagic 0)

-- the flag, and what is behind it
abbrev pub flag_at : List ℕ → Result (ℕ × List ℕ) JoinFault
flag_at bytes =
    field 1 4 bytes >>= λ x. if nat_le (slice_index x.0 0) 1 then Ok (slice_index x.0 0, x.1)
    else Err (frame_fault rule.BadFlag 4)

-- behind the rectangle: the length of the first map's proof, that proof, and all else
abbrev pub parts_behind : Option Rectangle → List ℕ → Result Frame JoinFault
parts_behind None bytes = Err (frame_fault rule.BadRect 5)
parts_behind (Some w) bytes =
    field 4 21 bytes >>= λ n. field (from_be_bytes w32 n.0) 25 n.1 >>= λ x.
    Ok (record { rect = Some w; first = x.0; second = x.1 })

abbrev pub both_parts : List ℕ → Result Frame JoinFault
both_parts bytes = field 16 5 bytes >>= λ x. parts_behind (rectangle_of_bytes x.0) x.1

-- behind the flag
abbrev pub parts_at : (flag : ℕ) → List ℕ → Result Frame JoinFault
parts_at flag bytes =
    if flag == 0 then Ok (record { rect = None; first = []; second = bytes }) else both_parts bytes

-- what the bytes hold, or the first rule of the frame that they break
unfoldable pub frame_of : List ℕ → Result Frame JoinFault
frame_of bytes = past_magic bytes >>= λ rest. flag_at rest >>= λ x. parts_at x.0 x.1

-- ---- writing

abbrev pub parts_bytes : Option Rectangle → (first second : List ℕ) → List ℕ
parts_bytes None first second = 0 ∷ second
parts_bytes (Some w) first second =
    1 ∷ (rectangle_bytes w ++ (to_be_bytes w32 (length first) ++ (first ++ second)))

-- the bytes of a frame
abbrev pub frame_bytes : Frame → List ℕ
frame_bytes x = magic ++ parts_bytes x.rect x.first x.second

-- where there is no rectangle there is no first part; else the rectangle is one of a map, and four
-- bytes say the length of the first part
abbrev pub FitsParts : Option Rectangle → List ℕ → Type 0
FitsParts None first = first ≡ []
FitsParts (Some w) first = IsOrdered w × FitsMap w × (length first < 2 ^ 32)

-- there are such bytes
abbrev pub FitsFrame : Frame → Type 0
FitsFrame x = FitsParts x.rect x.first

-- What the bytes hold: one such frame at most, which reading finds.
pub record ReadsJust (bytes : List ℕ) : Type 0 where
  pub spelled : (x : Frame) → frame_of bytes ≡ Ok x → bytes ≡ frame_bytes x
  pub found : (x : Frame) → FitsFrame x → bytes ≡ frame_bytes x → frame_of bytes ≡ Ok x
