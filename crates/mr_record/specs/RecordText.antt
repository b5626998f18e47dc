-- The texts of records: `number x0 y0 x1 y1 payload` on a line, in version 2
-- `number x0 y0 x1 y1 layer payload`, and lines with different numbers.
use Rattle.std.specs.Prelude.{◌≢◌, ℕ, ◌^◌, ◌≤◌, ◌==◌, ◌&&◌, ◌||◌, nat_le, Bool, if◌then◌else◌, List, [], ◌∷◌, ◌++◌, length, All, AllPairs, Option, Some, None, option_map, Result, Ok, Err, ok_or, bytes_eq, decimal}
use Rattle.std.specs.List.{list_any, list_all}
use Rattle.std.specs.Fmt.{signed_decimal}
use Rattle.hex.specs.Hex.{encode_lower, decode_of}
use Rattle.hex.specs.declared.error.FromHexError.{FromHexError}
use Rattle.mr_geom.specs.Rectangle.{Rectangle, rectangle_of}
use Rattle.mr_record.specs.declared.record.Record.{Record}
use Rattle.mr_record.specs.declared.text_fault.TextRule.{TextRule}
use Rattle.mr_record.specs.declared.text_fault.TextRule.TheVariants.{Form, Number, Coordinate, Order, Payload, Repeat, Layer}
use Rattle.mr_record.specs.declared.text_fault.TextFault.{TextFault}
use Rattle.mr_record.specs.declared.version.Version.{Version}
use Rattle.mr_record.specs.declared.version.Version.TheVariants.{One, Two}
use Rattle.mr_record.specs.Version.{highest_layer, from_two}
use Rattle.mr_record.specs.Decimal.{u64_of, i32_of, at_most}
use Rattle.mr_record.specs.Lines.{lines_of, fields_of}
use Rattle.mr_record.specs.LineTexts.{Reader, text_by, values_after}
use Rattle.mr_record.specs.Record.{IsRecord, HasLayer}
use Rattle.mr_record.specs.Results.{◌>>=◌}

-- ---- the one spelling of a record

-- `-` for an empty payload, else two lower-case hexadecimal digits for each byte
abbrev pub payload_text : List ℕ → List ℕ
payload_text [] = 45 ∷ []
payload_text (b ∷ bytes) = encode_lower (b ∷ bytes)

-- the layer and a space, which the first version does not spell
abbrev pub layer_text : Version → ℕ → List ℕ
layer_text v layer = from_two v (decimal layer ++ 32 ∷ [])

-- the line of a record, without its line feed
unfoldable pub line_of : Version → Record → List ℕ
line_of v r =
    decimal r.number ++ 32 ∷ (signed_decimal r.rect.x0 ++ 32 ∷ (signed_decimal r.rect.y0
    ++ 32 ∷ (signed_decimal r.rect.x1 ++ 32 ∷ (signed_decimal r.rect.y1
    ++ 32 ∷ (layer_text v r.layer ++ payload_text r.payload)))))

-- the most lines of a record text
abbrev pub line_limit : ℕ
line_limit = 2 ^ 20

-- records that one text may hold
pub record IsRecordList (v : Version) (records : List Record) : Type 0 where
  pub each : All IsRecord records
  pub layers : All (HasLayer v) records
  pub apart : AllPairs (λ a b. a.number ≢ b.number) records
  pub count : length records ≤ line_limit

-- ---- what a line spells

-- `0` to `9` and `a` to `f`
abbrev pub is_lower_digit : ℕ → Bool
is_lower_digit c = (nat_le 48 c && nat_le c 57) || (nat_le 97 c && nat_le c 102)

-- the bytes, if there are any
abbrev pub ok_bytes : Result (List ℕ) FromHexError → Option (List ℕ)
ok_bytes (Ok bytes) = Some bytes
ok_bytes (Err e) = None

-- the bytes of lower-case hexadecimal of 1 to 200 bytes
abbrev pub hex_bytes : List ℕ → Option (List ℕ)
hex_bytes text =
    if nat_le 2 (length text) && nat_le (length text) 400 && list_all is_lower_digit text
    then ok_bytes (decode_of text) else None

-- the payload that a field spells
unfoldable pub payload_of : List ℕ → Option (List ℕ)
payload_of text = if bytes_eq text (45 ∷ []) then Some [] else hex_bytes text

-- the rectangle that four fields spell, else the first rule that they break
unfoldable pub rectangle_of_fields : (x0 y0 x1 y1 : List ℕ) → Result Rectangle TextRule
rectangle_of_fields x0 y0 x1 y1 = do
  left ← ok_or (i32_of x0) Coordinate
  low ← ok_or (i32_of y0) Coordinate
  right ← ok_or (i32_of x1) Coordinate
  high ← ok_or (i32_of y1) Coordinate
  ok_or (rectangle_of left low right high) Order

-- the layer that a field spells
unfoldable pub layer_of : List ℕ → Option ℕ
layer_of text = at_most (highest_layer Two) (u64_of text)

-- what stands behind the coordinates
pub record Last : Type 0 where
  -- none where the field spells no layer
  pub layer : Option ℕ
  pub payload : List ℕ

unfoldable pub last_of : List (List ℕ) → Version → Option Last
last_of (payload ∷ []) One = Some (record { layer = Some 0; payload = payload })
last_of (layer ∷ payload ∷ []) Two =
    Some (record { layer = layer_of layer; payload = payload })
last_of _ _ = None

-- a record before its layer is judged: as of layer 0, and the layer, where the field spells one
abbrev pub Unlayered : Type 0
Unlayered = Record × Option ℕ

-- the record that these fields spell, else the first rule that they break but for that of the layer
unfoldable pub record_from : (number x0 y0 x1 y1 : List ℕ) → Option Last →
    Result Unlayered TextRule
record_from number x0 y0 x1 y1 last = do
  end ← ok_or last Form
  n ← ok_or (u64_of number) Number
  rect ← rectangle_of_fields x0 y0 x1 y1
  bytes ← ok_or (payload_of end.payload) Payload
  Ok (record { number = n; rect = rect; layer = 0; payload = bytes }, end.layer)

-- the record that six or seven fields spell
abbrev pub record_of_fields : Version → List (List ℕ) → Result Unlayered TextRule
record_of_fields v (number ∷ x0 ∷ y0 ∷ x1 ∷ y1 ∷ last) =
    record_from number x0 y0 x1 y1 (last_of last v)
record_of_fields v _ = Err Form

-- the rule of the layer comes last
abbrev pub layered : Unlayered → Result Record TextRule
layered p = ok_or (option_map (λ layer. record p.0 { layer = layer }) p.1) Layer

-- the record that a line without its line feed spells, else the first rule that it breaks
abbrev pub record_of_line : Version → List ℕ → Result Record TextRule
record_of_line v line = record_of_fields v (fields_of line) >>= layered

-- ---- what a text spells

-- some of the records has the number
abbrev pub has_number : ℕ → List Record → Bool
has_number n records = list_any (λ r. r.number == n) records

-- the record, unless one of the earlier records has its number
abbrev pub if_new : List Record → Unlayered → Result Unlayered TextRule
if_new earlier p = if has_number p.0.number earlier then Err Repeat else Ok p

-- the record of a line behind the earlier records, else the first rule that it breaks: that of the
-- layer comes last
abbrev pub new_record : Version → List Record → List ℕ → Result Record TextRule
new_record v earlier line =
    (record_of_fields v (fields_of line) >>= if_new earlier) >>= layered

-- how the lines of a text spell records
abbrev pub record_lines : Version → Reader Record
record_lines v =
    record { limit = line_limit; first = 1; read = new_record v; spell = line_of v }

-- the lines of the records, each with its line feed
unfoldable pub text_of : Version → List Record → List ℕ
text_of v records = text_by (record_lines v) records

-- the records of a text in order, else its fault
abbrev pub records_of_text : Version → List ℕ → Result (List Record) TextFault
records_of_text v text = values_after (record_lines v) [] (lines_of text)
