-- Workloads that are made up: records and queries of the words of SplitMix64 (Steele, Lea and
-- Flood 2014), whose state at the start is the start number.
use Rattle.std.specs.Prelude.{ℕ, ◌/◌, ◌%◌, ◌^◌, ℤ, pos, ◌+ℤ◌, ◌-ℤ◌, ◌==◌, if◌then◌else◌, List, map, None}
use Rattle.std.specs.List.{enumerate_from}
use Rattle.std.specs.Int.{w64, to_be_bytes}
use Rattle.rand_core.specs.Steps.{first_words}
use Rattle.rand_xoshiro.specs.SplitMix64.{mix_u64}
use Rattle.mr_geom.specs.Rectangle.{Rectangle}
use Rattle.mr_record.specs.declared.record.Record.{Record}
use Rattle.mr_query.specs.Word.{point_at, asks}
use Rattle.mr_query.specs.declared.query.Query.{Query}
use Rattle.mr_query.specs.declared.query.Shape.{Shape}
use Rattle.mr_query.specs.declared.query.Shape.TheVariants.{Window, Nearest}

-- the next words, of 64 bits each, from a state on
unfoldable pub words : (count state : ℕ) → List ℕ
words count state = first_words mix_u64 count state

-- what `f` makes of each word and its place, the first of which is `first`
unfoldable pub of_each : {A : Type 0} → ((place word : ℕ) → A) → (first : ℕ) → List ℕ → List A
of_each f first ws = map (λ (p : ℕ × ℕ). f p.0 p.1) (enumerate_from first ws)

-- the upper and the lower 32 bits of a word
abbrev pub upper : ℕ → ℕ
upper word = word / 2 ^ 32

abbrev pub lower : ℕ → ℕ
lower word = word % 2 ^ 32

-- the coordinate of one half of a word, from -1,000,000 to 999,999
abbrev pub coordinate : ℕ → ℤ
coordinate half = pos (half % 2000000) -ℤ pos 1000000

-- the rectangle from its lower left corner on
abbrev pub rectangle_from : (x y width height : ℤ) → Rectangle
rectangle_from x y width height = record { x0 = x; y0 = y; x1 = x +ℤ width; y1 = y +ℤ height }

-- ---- records

-- how wide or high the rectangle of a record is, by one half of its word: from 0 to 63
abbrev pub extent : ℕ → ℤ
extent half = pos (half % 64)

-- x by the upper half of the word, y by the lower half
unfoldable pub rectangle_of_word : ℕ → Rectangle
rectangle_of_word word =
    rectangle_from (coordinate (upper word)) (coordinate (lower word)) (extent (upper word))
    (extent (lower word))

-- the record of a number and a word, which is its payload, the highest byte first
unfoldable pub record_of_word : (number word : ℕ) → Record
record_of_word number word = record {
  number = number;
  rect = rectangle_of_word word;
  layer = 0;
  payload = to_be_bytes w64 word;
}

-- `n` records, numbered from 1
unfoldable pub generated : (n start : ℕ) → List Record
generated n start = of_each record_of_word 1 (words n start)

-- ---- queries

-- how wide and high each window is
abbrev pub window_side : ℤ
window_side = pos 20000

-- as many records as each query for the nearest asks for
abbrev pub neighbours : ℕ
neighbours = 10

-- a window at each even place, the nearest records at each odd one; x by the upper half of the
-- word, y by the lower half
unfoldable pub shape_of_word : (place word : ℕ) → Shape
shape_of_word place word =
    if place % 2 == 0
    then Window (rectangle_from (coordinate (upper word)) (coordinate (lower word)) window_side
    window_side)
    else Nearest (point_at (coordinate (upper word)) (coordinate (lower word))) neighbours

-- on all layers
abbrev pub query_of_word : (place word : ℕ) → Query
query_of_word place word = asks (shape_of_word place word) None

-- `n` queries, at the places from 0 on
unfoldable pub generated_queries : (n start : ℕ) → List Query
generated_queries n start = of_each query_of_word 0 (words n start)
