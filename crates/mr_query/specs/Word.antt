-- The words that spell a query: a kind, a colon and parts between commas, and behind a `/` the mask
-- of the layers that it names.
use Rattle.std.specs.Prelude.{ℕ, ℤ, ◌+◌, ◌^◌, ◌<◌, ◌≤◌, ⊤, FitsSigned, nat_eq, nat_le, ◌==◌, ◌&&◌, if◌then◌else◌, List, [], ◌∷◌, ◌++◌, length, take, drop, decimal, Option, Some, None, IfSome, option_map, option_and_then, Result, Ok, Err, ok_or, bytes_eq, position}
use Rattle.std.specs.List.{slice_split, list_all}
use Rattle.std.specs.Fmt.{signed_decimal}
use Rattle.std.specs.Int.{w32, w64, from_be_bytes, to_be_bytes}
use Rattle.hex.specs.Hex.{encode_lower, decode_of}
use Rattle.mr_geom.specs.declared.point.Point.{Point}
use Rattle.mr_geom.specs.Rectangle.{IsOrdered, FitsMap, rectangle_of}
use Rattle.mr_record.specs.Decimal.{i32_of, u64_of}
use Rattle.mr_record.specs.RecordText.{is_lower_digit, ok_bytes}
use Rattle.mr_record.specs.Results.{◌>>=◌}
use Rattle.mr_query.specs.declared.query.Query.{Query}
use Rattle.mr_query.specs.declared.query.Shape.{Shape}
use Rattle.mr_query.specs.declared.query.Shape.TheVariants.{Window, Nearest}
use Rattle.mr_query.specs.declared.query.QueryFault.{QueryFault}
use Rattle.mr_query.specs.declared.query.QueryFault.TheVariants.{Kind, Parts, Number, Order, Mask}

-- the text cut at each comma
abbrev pub comma_parts : List ℕ → List (List ℕ)
comma_parts text = slice_split (λ b. b == 44) text

-- the number of the part, counted from 1
abbrev pub number_of : ℕ → List ℕ → Result ℤ QueryFault
number_of part text = ok_or (i32_of text) (Number part)

-- the window that four parts spell
unfoldable pub window_of : List ℕ → List ℕ → List ℕ → List ℕ → Result Shape QueryFault
window_of a b c d = do
  x0 ← number_of 1 a
  y0 ← number_of 2 b
  x1 ← number_of 3 c
  y1 ← number_of 4 d
  w ← ok_or (rectangle_of x0 y0 x1 y1) Order
  Ok (Window w)

-- the window that the parts spell, which have to be four
unfoldable pub window_of_parts : List (List ℕ) → Result Shape QueryFault
window_of_parts (x0 ∷ y0 ∷ x1 ∷ y1 ∷ []) = window_of x0 y0 x1 y1
window_of_parts _ = Err Parts

-- as many records as may be asked for
abbrev pub neighbour_limit : ℕ
neighbour_limit = 1024

-- the number, if it asks for 1 to 1,024 records
abbrev pub if_askable : ℕ → Option ℕ
if_askable k = if nat_le 1 k && nat_le k neighbour_limit then Some k else None

-- the number of records that the part, counted from 1, asks for
abbrev pub count_in_word : ℕ → List ℕ → Result ℕ QueryFault
count_in_word part text = ok_or (option_and_then if_askable (u64_of text)) (Number part)

abbrev pub point_at : (x y : ℤ) → Point
point_at x y = record { x = x; y = y }

-- the nearest records that three parts ask for: a point, and how many
unfoldable pub nearest_of : List ℕ → List ℕ → List ℕ → Result Shape QueryFault
nearest_of a b c = do
  x ← number_of 1 a
  y ← number_of 2 b
  k ← count_in_word 3 c
  Ok (Nearest (point_at x y) k)

-- those that the parts ask for, which have to be three
unfoldable pub nearest_of_parts : List (List ℕ) → Result Shape QueryFault
nearest_of_parts (x ∷ y ∷ k ∷ []) = nearest_of x y k
nearest_of_parts _ = Err Parts

-- `window:`
abbrev pub window_word : List ℕ
window_word = 119 ∷ 105 ∷ 110 ∷ 100 ∷ 111 ∷ 119 ∷ 58 ∷ []

-- `nearest:`
abbrev pub nearest_word : List ℕ
nearest_word = 110 ∷ 101 ∷ 97 ∷ 114 ∷ 101 ∷ 115 ∷ 116 ∷ 58 ∷ []

-- the nearest records that the text asks for, else the first fault
unfoldable pub nearest_shape_of : List ℕ → Result Shape QueryFault
nearest_shape_of word =
    if bytes_eq (take 8 word) nearest_word then nearest_of_parts (comma_parts (drop 8 word))
    else Err Kind

-- the shape that the text spells, else the first fault
unfoldable pub shape_of : List ℕ → Result Shape QueryFault
shape_of word =
    if bytes_eq (take 7 word) window_word then window_of_parts (comma_parts (drop 7 word))
    else nearest_shape_of word

-- the mask that 16 lower-case hexadecimal digits write, of the highest layer first
unfoldable pub mask_of_text : List ℕ → Option ℕ
mask_of_text text =
    if nat_eq (length text) 16 && list_all is_lower_digit text
    then option_map (λ bytes. from_be_bytes w64 bytes) (ok_bytes (decode_of text)) else None

abbrev pub asks : Shape → Option ℕ → Query
asks shape mask = record { shape = shape; mask = mask }

-- the query on all layers whose shape the text spells
unfoldable pub unmasked_query : List ℕ → Result Query QueryFault
unmasked_query text = do
  shape ← shape_of text
  Ok (asks shape None)

-- the query whose shape and mask two texts spell
unfoldable pub masked_query : (text named : List ℕ) → Result Query QueryFault
masked_query text named = do
  shape ← shape_of text
  mask ← ok_or (mask_of_text named) Mask
  Ok (asks shape (Some mask))

-- a shape, and a mask where there is a place of a `/`, behind it
abbrev pub query_cut : List ℕ → Option ℕ → Result Query QueryFault
query_cut word None = unmasked_query word
query_cut word (Some at) = masked_query (take at word) (drop (at + 1) word)

-- the query that the word spells, which is cut at its first `/`; else the first fault
unfoldable pub query_of : List ℕ → Result Query QueryFault
query_of word = query_cut word (position (λ b. b == 47) word)

-- ---- the one spelling of a query

-- each coordinate is one of a map: a whole number of 32 bits with its sign
pub record FitsPoint (p : Point) : Type 0 where
  pub x : FitsSigned w32 p.x
  pub y : FitsSigned w32 p.y

-- nearest records are 1 to 1,024
abbrev pub IsCounted : Shape → Type 0
IsCounted (Window w) = ⊤
IsCounted (Nearest p k) = (1 ≤ k) × (k ≤ neighbour_limit)

-- a query for nearest records asks for 1 to 1,024 records
abbrev pub IsAskable : Query → Type 0
IsAskable q = IsCounted q.shape

-- a shape whose numbers are in range
abbrev pub IsShape : Shape → Type 0
IsShape (Window w) = IsOrdered w × FitsMap w
IsShape (Nearest p k) = FitsPoint p × IsCounted (Nearest p k)

-- a query whose numbers are in range
pub record IsQuery (q : Query) : Type 0 where
  pub shape : IsShape q.shape
  pub mask : IfSome q.mask (λ mask. mask < 2 ^ 64)

-- the word of a shape
unfoldable pub shape_word : Shape → List ℕ
shape_word (Window w) =
    window_word ++ (signed_decimal w.x0 ++ 44 ∷ (signed_decimal w.y0
    ++ 44 ∷ (signed_decimal w.x1 ++ 44 ∷ signed_decimal w.y1)))
shape_word (Nearest p k) =
    nearest_word ++ (signed_decimal p.x ++ 44 ∷ (signed_decimal p.y ++ 44 ∷ decimal k))

-- a `/` and the mask, where one is named
abbrev pub mask_word : Option ℕ → List ℕ
mask_word None = []
mask_word (Some mask) = 47 ∷ encode_lower (to_be_bytes w64 mask)

-- the word of a query
abbrev pub word_of : Query → List ℕ
word_of q = shape_word q.shape ++ mask_word q.mask
