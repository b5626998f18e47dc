-- A journal: one byte, its gate, and then its body. This is a version (1 byte), a number of entries
-- (4), and the entries: each the number of a page (4) and the bytes of the page. Bytes behind the
-- entries are ignored.
use Rattle.std.specs.List.{flat_map}
use Rattle.std.specs.Prelude.{◌/◌, ◌%◌, ◌++◌, ◌==◌, ℕ, zero, suc, ◌+◌, ◌*◌, ◌^◌, max, Bool, true, false, ◌&&◌, ◌||◌, nat_lt, nat_le, List, [], ◌∷◌, length, take, drop, if◌then◌else◌}
use Rattle.mr_outside.specs.Files.{replaced}
use Rattle.mr_journal.specs.Images.{Image}

-- which page of the map, and its bytes
pub record Page : Type 0 where
  pub number : ℕ
  pub bytes : List ℕ

-- how many bytes a page has, by the version of the map
unfoldable pub page_size : ℕ → ℕ
page_size version = if version == 2 then 8192 else 4096

abbrev pub is_version : ℕ → Bool
is_version version = (version == 1) || (version == 2)

-- the number that the first four bytes spell, the highest first
unfoldable pub number_of : List ℕ → ℕ
number_of (a ∷ b ∷ c ∷ d ∷ rest) = a * 16777216 + b * 65536 + c * 256 + d
number_of short = 0

-- the page of the entry in front
abbrev pub first_page : ℕ → List ℕ → Page
first_page size bytes = record { number = number_of bytes; bytes = take size (drop 4 bytes) }

-- the pages of so many entries, one behind the other
abbrev pub entries : ℕ → ℕ → List ℕ → List Page
entries size zero bytes = []
entries size (suc n) bytes = first_page size bytes ∷ entries size n (drop (4 + size) bytes)

-- the page is whole, its number is from `low` on and below the limit, and it does not begin past
-- `reach`
abbrev pub fits : ℕ → ℕ → ℕ → Page → Bool
fits size low reach page =
    (length page.bytes == size)
    && (nat_le low page.number
    && (nat_lt page.number (2 ^ 20)
    && nat_le (page.number * size) reach))

-- All pages are whole; the first number is from `low` on, each is above the one before, and all are
-- below the limit; and none begins past the end of a map of length `reach` as the earlier ones
-- leave it.
abbrev pub pages_fit : ℕ → ℕ → ℕ → List Page → Bool
pages_fit size low reach [] = true
pages_fit size low reach (page ∷ pages) =
    fits size low reach page
    && pages_fit size (page.number + 1) (max reach (page.number * size + size)) pages

-- the map with these pages put in
abbrev pub put_pages : ℕ → List Page → List ℕ → List ℕ
put_pages size [] map = map
put_pages size (page ∷ pages) map =
    put_pages size pages (replaced (page.number * size) page.bytes map)

abbrev pub has_count : ℕ → Bool
has_count n = nat_le 1 n && nat_le n (2 ^ 20)

-- Behind an open gate this body stands for a change of a map of this length: its version is 1 or 2,
-- it has 1 to 2^20 entries, and all of them are there and placed.
unfoldable pub ready : ℕ → List ℕ → Bool
ready length [] = false
ready length (version ∷ rest) =
    is_version version
    && (has_count (number_of rest)
    && pages_fit (page_size version) 0 length
    (entries (page_size version) (number_of rest) (drop 4 rest)))

-- the map with the pages of this body put in
unfoldable pub carried : List ℕ → List ℕ → List ℕ
carried [] map = map
carried (version ∷ rest) map =
    put_pages (page_size version) (entries (page_size version) (number_of rest) (drop 4 rest)) map

-- the journal is open, beside a map of this length: its gate is 4f, and its body may be put in
abbrev pub opens : ℕ → List ℕ → Bool
opens length [] = false
opens length (gate ∷ body) = (gate == 79) && ready length body

abbrev pub body_of : List ℕ → List ℕ
body_of [] = []
body_of (gate ∷ body) = body

abbrev pub is_open : Image → Bool
is_open image = opens (length image.map) image.journal

-- what recovery makes of an image: the map with the pages of an open journal put in, and else the
-- map
unfoldable pub restored : Image → List ℕ
restored image = if is_open image then carried (body_of image.journal) image.map else image.map

-- what recovery leaves of an image: the map to which it restores, and 00 in place of the gate of an
-- open journal
unfoldable pub recovered : Image → Image
recovered image = record {
  map = restored image;
  journal = if is_open image then 0 ∷ body_of image.journal else image.journal;
}

-- what a change by this body leaves of an image: its pages in the map, and the body behind 00 in
-- the journal, where what goes further stays
unfoldable pub changed_by : List ℕ → Image → Image
changed_by body image = record {
  map = carried body image.map;
  journal = 0 ∷ (body ++ drop (1 + length body) image.journal);
}

-- four bytes that spell a number, the highest first
abbrev pub spelled_number : ℕ → List ℕ
spelled_number n = n / 16777216 ∷ n / 65536 % 256 ∷ n / 256 % 256 ∷ n % 256 ∷ []

abbrev pub spelled_page : Page → List ℕ
spelled_page page = spelled_number page.number ++ page.bytes

-- the body that stands for these pages
abbrev pub spelled : ℕ → List Page → List ℕ
spelled version pages = version ∷ (spelled_number (length pages) ++ flat_map spelled_page pages)

abbrev pub page_of : ℕ → List ℕ → Page
page_of number bytes = record { number = number; bytes = bytes }
