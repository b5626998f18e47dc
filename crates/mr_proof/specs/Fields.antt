-- The fields of a proof, each by itself: its size, and the value of its bytes or the rule that they
-- break.
use Rattle.std.specs.Prelude.{◌≡◌, ◌⊎◌, ℕ, ◌<◌, ◌≤◌, ◌^◌, ⊤, Bool, true, false, not, ◌==◌, ◌&&◌, ◌||◌, nat_le, if◌then◌else◌, List, [], ◌∷◌, length, slice_index, bytes_eq, Result, Ok, Err, pos}
use Rattle.std.specs.Int.{w64, w128, from_be_bytes, to_be_bytes}
use Rattle.mr_geom.specs.Rectangle.{Rectangle, FitsMap, in_order}
use Rattle.mr_outside.specs.Bytes.{AreBytes}
use Rattle.mr_record.specs.Record.{sides_of, rectangle_bytes}
use Rattle.mr_record.specs.Version.{version_byte, highest_layer}
use Rattle.mr_record.specs.declared.version.Version.{Version}
use Rattle.mr_record.specs.declared.version.Version.TheVariants.{One, Two}
use Rattle.mr_proof.specs.Limits.{count_limit, radius_limit, level_limit, leaf_limit, inner_limit, payload_limit}
use Rattle.mr_proof.specs.declared.head.Kind.{Kind}
use Rattle.mr_proof.specs.declared.head.Kind.TheVariants as kind
use Rattle.mr_proof.specs.declared.rule.Rule.{Rule}
use Rattle.mr_proof.specs.declared.rule.Rule.TheVariants as rule
use Rattle.mr_proof.specs.declared.want.Want.{Want}
use Rattle.mr_proof.specs.declared.want.Want.TheVariants as want
use Rattle.mr_proof.specs.declared.field.Field.{Field}
use Rattle.mr_proof.specs.declared.field.Field.TheVariants as field

-- how many bytes a field has
abbrev pub size_of : Want → ℕ
size_of want.Magic = 4
size_of (want.Version two_only) = 1
size_of (want.Kind k) = 1
size_of want.Batch = 8
size_of want.Count = 8
size_of want.Flag = 1
size_of want.Radius = 16
size_of want.Level = 1
size_of (want.Tag level) = 1
size_of want.LeafCount = 1
size_of want.InnerCount = 1
size_of want.Number = 8
size_of want.Rect = 16
size_of want.Layer = 1
size_of want.Length = 1
size_of (want.Payload n) = n
size_of want.Mask = 8
size_of want.Tally = 8
size_of want.Digest = 32

-- a payload is wanted with no more bytes than one may have
abbrev pub FitsPayload : Want → Type 0
FitsPayload (want.Payload n) = n ≤ payload_limit
FitsPayload _ = ⊤

-- the value, unless the rule is broken
abbrev pub only_if : Bool → Field → Rule → Result Field Rule
only_if good value broken = if good then Ok value else Err broken

-- `MRVO`
abbrev pub magic : List ℕ
magic = 77 ∷ 82 ∷ 86 ∷ 79 ∷ []

-- `W` or `K`, or the letter of a choice
abbrev pub kind_byte : Kind → ℕ
kind_byte kind.W = 87
kind_byte kind.K = 75
kind_byte (kind.Choice letter) = letter

-- `P`, `L` and `N`: a pruned part, an opened leaf, an opened inner node
abbrev pub pruned_tag : ℕ
pruned_tag = 80

abbrev pub leaf_tag : ℕ
leaf_tag = 76

abbrev pub inner_tag : ℕ
inner_tag = 78

-- the tag of an opened node of this level
abbrev pub opened_tag : ℕ → ℕ
opened_tag level = if level == 0 then leaf_tag else inner_tag

abbrev pub tag_of : ℕ → ℕ → Result Field Rule
tag_of level b = only_if (b == pruned_tag || b == opened_tag level) (field.Tag b) rule.BadTag

abbrev pub entries_of : ℕ → ℕ → Result Field Rule
entries_of most n = only_if (nat_le 1 n && nat_le n most) (field.Num n) rule.BadEntries

-- the byte of a version: of either, or where only the second one may come of that
abbrev pub version_field : Bool → ℕ → Result Field Rule
version_field two_only b =
    only_if (b == version_byte Two || (not two_only && b == version_byte One))
    (field.Num b) rule.BadVersion

abbrev pub tally_field : ℕ → Result Field Rule
tally_field n = only_if (nat_le 1 n && nat_le n count_limit) (field.Num n) rule.BadCount

abbrev pub rectangle_field : Rectangle → Result Field Rule
rectangle_field r = only_if (in_order r) (field.Rect r) rule.BadRect

-- the value of a field's bytes, else the rule that they break
unfoldable pub field_of : Want → List ℕ → Result Field Rule
field_of want.Magic bytes = only_if (bytes_eq bytes magic) field.Plain rule.BadMagic
field_of (want.Version two_only) bytes = version_field two_only (slice_index bytes 0)
field_of (want.Kind k) bytes =
    only_if (slice_index bytes 0 == kind_byte k) field.Plain rule.WrongKind
field_of want.Batch bytes = Ok (field.Num (from_be_bytes w64 bytes))
field_of want.Count bytes =
    only_if (nat_le (from_be_bytes w64 bytes) count_limit)
    (field.Num (from_be_bytes w64 bytes)) rule.BadCount
field_of want.Flag bytes =
    only_if (nat_le (slice_index bytes 0) 1) (field.Num (slice_index bytes 0)) rule.BadFlag
field_of want.Radius bytes =
    only_if (nat_le (from_be_bytes w128 bytes) radius_limit)
    (field.Wide (from_be_bytes w128 bytes)) rule.BadRadius
field_of want.Level bytes =
    only_if (nat_le (slice_index bytes 0) level_limit)
    (field.Num (slice_index bytes 0)) rule.BadLevel
field_of (want.Tag level) bytes = tag_of level (slice_index bytes 0)
field_of want.LeafCount bytes = entries_of leaf_limit (slice_index bytes 0)
field_of want.InnerCount bytes = entries_of inner_limit (slice_index bytes 0)
field_of want.Number bytes = Ok (field.Num (from_be_bytes w64 bytes))
field_of want.Rect bytes = rectangle_field (sides_of bytes)
field_of want.Layer bytes =
    only_if (nat_le (slice_index bytes 0) (highest_layer Two))
    (field.Num (slice_index bytes 0)) rule.BadLayer
field_of want.Length bytes =
    only_if (nat_le (slice_index bytes 0) payload_limit)
    (field.Num (slice_index bytes 0)) rule.BadLength
field_of (want.Payload n) bytes = Ok (field.Payload bytes)
field_of want.Mask bytes = Ok (field.Num (from_be_bytes w64 bytes))
field_of want.Tally bytes = tally_field (from_be_bytes w64 bytes)
field_of want.Digest bytes = Ok (field.Digest bytes)

-- ---- what a field holds, where it is one of this form

abbrev pub number_in : Field → ℕ
number_in (field.Num n) = n
number_in _ = 0

-- the version of its byte
abbrev pub version_in : Field → Version
version_in f = if number_in f == version_byte One then One else Two

abbrev pub wide_in : Field → ℕ
wide_in (field.Wide n) = n
wide_in _ = 0

abbrev pub tag_in : Field → ℕ
tag_in (field.Tag b) = b
tag_in _ = 0

abbrev pub nowhere : Rectangle
nowhere = record { x0 = pos 0; y0 = pos 0; x1 = pos 0; y1 = pos 0 }

abbrev pub rect_in : Field → Rectangle
rect_in (field.Rect r) = r
rect_in _ = nowhere

abbrev pub bytes_in : Field → List ℕ
bytes_in (field.Payload bytes) = bytes
bytes_in (field.Digest bytes) = bytes
bytes_in _ = []

-- ---- the bytes of a field with this value

unfoldable pub field_bytes : Want → Field → List ℕ
field_bytes want.Magic f = magic
field_bytes (want.Version two_only) f = number_in f ∷ []
field_bytes (want.Kind k) f = kind_byte k ∷ []
field_bytes want.Batch f = to_be_bytes w64 (number_in f)
field_bytes want.Count f = to_be_bytes w64 (number_in f)
field_bytes want.Flag f = number_in f ∷ []
field_bytes want.Radius f = to_be_bytes w128 (wide_in f)
field_bytes want.Level f = number_in f ∷ []
field_bytes (want.Tag level) f = tag_in f ∷ []
field_bytes want.LeafCount f = number_in f ∷ []
field_bytes want.InnerCount f = number_in f ∷ []
field_bytes want.Number f = to_be_bytes w64 (number_in f)
field_bytes want.Rect f = rectangle_bytes (rect_in f)
field_bytes want.Layer f = number_in f ∷ []
field_bytes want.Length f = number_in f ∷ []
field_bytes (want.Payload n) f = bytes_in f
field_bytes want.Mask f = to_be_bytes w64 (number_in f)
field_bytes want.Tally f = to_be_bytes w64 (number_in f)
field_bytes want.Digest f = bytes_in f

-- ---- which values there are

-- the value is one of its type
abbrev pub IsField : Field → Type 0
IsField field.Plain = ⊤
IsField (field.Num n) = n < 2 ^ 64
IsField (field.Wide n) = n < 2 ^ 128
IsField (field.Tag b) = b < 2 ^ 8
IsField (field.Rect r) = FitsMap r
IsField (field.Payload bytes) = AreBytes bytes
IsField (field.Digest bytes) = AreBytes bytes

-- a number with this fact
abbrev pub NumberWith : (ℕ → Type 0) → Field → Type 0
NumberWith P (field.Num n) = P n
NumberWith P _ = ⊥

abbrev pub WideWith : (ℕ → Type 0) → Field → Type 0
WideWith P (field.Wide n) = P n
WideWith P _ = ⊥

abbrev pub TagWith : (ℕ → Type 0) → Field → Type 0
TagWith P (field.Tag b) = P b
TagWith P _ = ⊥

abbrev pub RectWith : (Rectangle → Type 0) → Field → Type 0
RectWith P (field.Rect r) = P r
RectWith P _ = ⊥

abbrev pub PayloadWith : (List ℕ → Type 0) → Field → Type 0
PayloadWith P (field.Payload bytes) = P bytes
PayloadWith P _ = ⊥

abbrev pub DigestWith : (List ℕ → Type 0) → Field → Type 0
DigestWith P (field.Digest bytes) = P bytes
DigestWith P _ = ⊥

abbrev pub IsVersionByte : Bool → ℕ → Type 0
IsVersionByte two_only n = (n ≡ version_byte Two) ⊎ ((two_only ≡ false) × (n ≡ version_byte One))

-- the value is one that the field may have
abbrev pub HasForm : Want → Field → Type 0
HasForm want.Magic f = f ≡ field.Plain
HasForm (want.Version two_only) f = NumberWith (IsVersionByte two_only) f
HasForm (want.Kind k) f = f ≡ field.Plain
HasForm want.Batch f = NumberWith (λ n. ⊤) f
HasForm want.Count f = NumberWith (λ n. n ≤ count_limit) f
HasForm want.Flag f = NumberWith (λ n. n ≤ 1) f
HasForm want.Radius f = WideWith (λ n. n ≤ radius_limit) f
HasForm want.Level f = NumberWith (λ n. n ≤ level_limit) f
HasForm (want.Tag level) f = TagWith (λ b. (b ≡ pruned_tag) ⊎ (b ≡ opened_tag level)) f
HasForm want.LeafCount f = NumberWith (λ n. (1 ≤ n) × (n ≤ leaf_limit)) f
HasForm want.InnerCount f = NumberWith (λ n. (1 ≤ n) × (n ≤ inner_limit)) f
HasForm want.Number f = NumberWith (λ n. ⊤) f
HasForm want.Rect f = RectWith (λ r. in_order r ≡ true) f
HasForm want.Layer f = NumberWith (λ n. n ≤ highest_layer Two) f
HasForm want.Length f = NumberWith (λ n. n ≤ payload_limit) f
HasForm (want.Payload n) f = PayloadWith (λ bytes. length bytes ≡ n) f
HasForm want.Mask f = NumberWith (λ n. ⊤) f
HasForm want.Tally f = NumberWith (λ n. (1 ≤ n) × (n ≤ count_limit)) f
HasForm want.Digest f = DigestWith (λ bytes. length bytes ≡ 32) f

-- the fields with a number
abbrev pub IsNumeric : Want → Type 0
IsNumeric w = (f : Field) → HasForm w f → NumberWith (λ n. ⊤) f
