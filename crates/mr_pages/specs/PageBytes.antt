-- The bytes of the pages of a map file, of either version: page 0, a node's page and a free page.
-- Each has its fields in front, one behind the other, and is filled up with zeros.
use Rattle.std.specs.Prelude.{◌≡◌, ℕ, zero, suc, ◌+◌, ◌-◌, ◌≤◌, ◌==◌, ◌&&◌, nat_le, Bool, true, not, if◌then◌else◌, List, [], ◌∷◌, ◌++◌, length, take, drop, replicate, slice_index, slice_range, Option, Some, None, option_map, Result, Ok, Err, bytes_eq}
use Rattle.std.specs.List.{flat_map, list_all}
use Rattle.std.specs.Option.{option_and_then}
use Rattle.std.specs.Int.{w32, w64, to_be_bytes, from_be_bytes}
use Rattle.mr_geom.specs.Rectangle.{Rectangle}
use Rattle.mr_record.specs.Record.{record_bytes, rectangle_of_bytes}
use Rattle.mr_record.specs.RecordField.{record_in}
use Rattle.mr_record.specs.Version.{version_byte, told}
use Rattle.mr_record.specs.declared.record.Record.{Record}
use Rattle.mr_record.specs.declared.record_fault.RecordFault.{RecordFault}
use Rattle.mr_record.specs.declared.version.Version.{Version}
use Rattle.mr_record.specs.declared.version.Version.TheVariants.{One, Two}
use Rattle.mr_tree.specs.Limits.{count_limit, level_limit, leaf_limit, inner_limit}
use Rattle.mr_tree.specs.Digest.{entry_bytes, root_entry_bytes, leaf_tag, inner_tag}
use Rattle.mr_tree.specs.declared.tree.Tree.TheOpen.{Empty, Leaf, Inner}
use Rattle.mr_pages.specs.declared.layout.Layout.{Layout}
use Rattle.mr_pages.specs.declared.rule.MapRule.{MapRule}
use Rattle.mr_pages.specs.declared.rule.MapRule.TheVariants.{Unsealed, Header}
use Rattle.mr_pages.specs.Page.{Link, Node, level_of, IsNode, Head, FitsMapHead, Form}

-- ---- what differs from one version of the format to the next

-- how many bytes a page has, here alone
abbrev pub page_size : ℕ
page_size = 4096

abbrev pub second_size : ℕ
second_size = 8192

abbrev pub first_layout : Layout
first_layout = record { size = page_size; version = One }

abbrev pub second_layout : Layout
second_layout = record { size = second_size; version = Two }

abbrev pub layout_by : Version → Layout
layout_by One = first_layout
layout_by Two = second_layout

-- ---- how pages are spelled

-- the bytes, and zeros to the page's end
abbrev pub filled : ℕ → List ℕ → List ℕ
filled size bytes = bytes ++ replicate (size - length bytes) 0

-- a child: its page, and its entry as in a preimage
unfoldable pub link_bytes : Version → Link → List ℕ
link_bytes v l = to_be_bytes w32 l.page ++ entry_bytes v l.entry

-- how many bytes that is
abbrev pub link_size : Version → ℕ
link_size v = 52 + told v 16

-- a leaf, or an inner node
abbrev pub node_bytes : Version → Node → List ℕ
node_bytes v Empty = []
node_bytes v (Leaf records) = leaf_tag ∷ length records ∷ flat_map (record_bytes v) records
node_bytes v (Inner links) =
    inner_tag ∷ level_of (Inner links) ∷ length links ∷ flat_map (link_bytes v) links

-- room for any node: 16 records of up to 226 bytes, behind a tag and their number; in version 2 64
-- children of 68 bytes, behind a tag, a level and their number
abbrev pub node_limit : Version → ℕ
node_limit v = 3618 + told v 737

-- A page has room for what is put on it, and no more bytes than are read at once.
pub record IsLayout (layout : Layout) : Type 0 where
  pub room : node_limit layout.version ≤ layout.size
  pub small : layout.size ≤ second_size

abbrev pub node_page : Layout → Node → List ℕ
node_page layout node = filled layout.size (node_bytes layout.version node)

abbrev pub free_tag : ℕ
free_tag = 0x46

-- a free page names the next one, 0 for none
abbrev pub free_page : ℕ → ℕ → List ℕ
free_page size next = filled size (free_tag ∷ to_be_bytes w32 next)

-- `MRMP`
abbrev pub magic : List ℕ
magic = 0x4d ∷ 0x52 ∷ 0x4d ∷ 0x50 ∷ []

-- `SEAL`
abbrev pub seal : List ℕ
seal = 0x53 ∷ 0x45 ∷ 0x41 ∷ 0x4c ∷ []

-- the level of the root node, its page and its entry as in a root preimage, all of them 0 where
-- there is none
abbrev pub root_level : Option Link → ℕ
root_level None = 0
root_level (Some l) = l.entry.level

-- how many bytes that is
abbrev pub root_size : Version → ℕ
root_size v = 52 + told v 8

unfoldable pub root_link_bytes : Version → Option Link → List ℕ
root_link_bytes v None = replicate (root_size v) 0
root_link_bytes v (Some l) = to_be_bytes w32 l.page ++ root_entry_bytes v l.entry

-- where it is told on page 0, where the first free page is, and where what page 0 says ends
abbrev pub root_place : ℕ
root_place = 26

abbrev pub free_place : Version → ℕ
free_place v = root_place + root_size v

abbrev pub head_size : Version → ℕ
head_size v = free_place v + 4

-- what page 0 says, up to the gap before the seal
unfoldable pub head_bytes : Version → Head → List ℕ
head_bytes v h = magic ++ version_byte v ∷ root_level h.root ∷ (to_be_bytes w64 h.batch
    ++ to_be_bytes w64 h.count ++ to_be_bytes w32 h.pages ++ root_link_bytes v h.root
    ++ to_be_bytes w32 h.free)

-- the seal stands at the page's end
abbrev pub seal_place : ℕ → ℕ
seal_place size = size - length seal

abbrev pub head_page : Layout → Head → List ℕ
head_page layout h = filled (seal_place layout.size) (head_bytes layout.version h) ++ seal

-- ---- how they are read

-- a reader answers a value that stands at the front, and what is left behind it
abbrev pub Reader : Type 0 → Type 0
Reader A = List ℕ → Option (A × List ℕ)

-- n values one behind the other
abbrev pub many : {A : Type 0} → Reader A → ℕ → Reader (List A)
many read zero bytes = Some ([], bytes)
many read (suc n) bytes =
    option_and_then (λ x. option_map (λ xs. (x.0 ∷ xs.0, xs.1)) (many read n x.1)) (read bytes)

abbrev pub found_record : List ℕ → Result (Record × ℕ) RecordFault → Option (Record × List ℕ)
found_record bytes (Ok r) = Some (r.0, drop r.1 bytes)
found_record bytes (Err fault) = None

abbrev pub record_field : Version → Reader Record
record_field v bytes = found_record bytes (record_in v bytes)

-- a word at a place that only the second version spells
abbrev pub word_in : Version → ℕ → List ℕ → ℕ
word_in One at bytes = 0
word_in Two at bytes = from_be_bytes w64 (slice_range bytes at (at + 8))

-- whether the version may tell this of a node
abbrev pub may_tell : Version → (mask count : ℕ) → Bool
may_tell One mask count = true
may_tell Two mask count = nat_le 1 mask && (nat_le 1 count && nat_le count count_limit)

-- the link, if its version may tell this
abbrev pub if_told : Version → Link → Option Link
if_told v l = if may_tell v l.entry.mask l.entry.count then Some l else None

-- a link from its bytes, its rectangle and what is told of the number of its records: the mask
-- stands behind the rectangle, and the digest from a place to the end
abbrev pub link_with : Version → (level count from end : ℕ) → List ℕ → Rectangle → Link
link_with v level count from end bytes r = record {
  page = from_be_bytes w32 (take 4 bytes);
  entry = record {
    level = level;
    rect = Some r;
    mask = word_in v 20 bytes;
    count = count;
    digest = slice_range bytes from end;
  };
}

-- the child of so many bytes, if its rectangle has its sides in order and its node has records
unfoldable pub link_in : Version → (level : ℕ) → List ℕ → Option Link
link_in v level bytes = option_and_then (λ (r : Rectangle). if_told v
    (link_with v level (word_in v 28 bytes) (20 + told v 16) (link_size v) bytes r))
    (rectangle_of_bytes (slice_range bytes 4 20))

abbrev pub link_field : Version → (level : ℕ) → Reader Link
link_field v level bytes =
    if nat_le (link_size v) (length bytes)
    then option_map (λ l. (l, drop (link_size v) bytes))
    (link_in v level (take (link_size v) bytes))
    else None

-- whether all bytes are 0
abbrev pub are_zeros : List ℕ → Bool
are_zeros bytes = list_all (λ b. b == 0) bytes

-- from 1 to the limit
abbrev pub from_one_to : ℕ → ℕ → Bool
from_one_to limit n = nat_le 1 n && nat_le n limit

-- what was read, if nothing but zeros is left
abbrev pub before_zeros : {A : Type 0} → A × List ℕ → Option A
before_zeros x = if are_zeros x.1 then Some x.0 else None

abbrev pub leaf_in : Version → List ℕ → Option Node
leaf_in v [] = None
leaf_in v (count ∷ rest) =
    if from_one_to leaf_limit count
    then option_map Leaf (option_and_then before_zeros (many (record_field v) count rest))
    else None

abbrev pub inner_in : Version → List ℕ → Option Node
inner_in v (level ∷ count ∷ rest) =
    if from_one_to level_limit level && from_one_to inner_limit count
    then option_map Inner
    (option_and_then before_zeros (many (link_field v (level - 1)) count rest))
    else None
inner_in v _ = None

abbrev pub tagged_in : Version → List ℕ → Option Node
tagged_in v [] = None
tagged_in v (tag ∷ rest) =
    if tag == leaf_tag then leaf_in v rest
    else if tag == inner_tag then inner_in v rest
    else None

-- the node that a page of this layout spells
abbrev pub node_in : Layout → List ℕ → Option Node
node_in layout page =
    if length page == layout.size then tagged_in layout.version page else None

-- the value, if this is its spelling
abbrev pub if_spelled : {A : Type 0} → (A → List ℕ) → List ℕ → A → Option A
if_spelled spell page a = if bytes_eq (spell a) page then Some a else None

-- the page that a free page names
abbrev pub free_in : ℕ → List ℕ → Option ℕ
free_in size page = if_spelled (free_page size) page (from_be_bytes w32 (slice_range page 1 5))

-- the root of so many bytes, over so many records
unfoldable pub root_link_in : Version → (count level : ℕ) → List ℕ → Option Link
root_link_in v count level raw = option_and_then (λ (r : Rectangle). if_told v
    (link_with v level (told v count) (20 + told v 8) (root_size v) raw r))
    (rectangle_of_bytes (slice_range raw 4 20))

-- the root node that the fields name, where there are records
unfoldable pub root_in : Version → (count level : ℕ) → List ℕ → Option Link
root_in v count level raw = if count == 0 then None else root_link_in v count level raw

-- what the fields of page 0 say, whatever stands around them
unfoldable pub fields_in : Version → List ℕ → Head
fields_in v page = record {
  batch = from_be_bytes w64 (slice_range page 6 14);
  count = from_be_bytes w64 (slice_range page 14 22);
  pages = from_be_bytes w32 (slice_range page 22 root_place);
  root = root_in v (from_be_bytes w64 (slice_range page 14 22)) (slice_index page 5)
      (slice_range page root_place (free_place v));
  free = from_be_bytes w32 (slice_range page (free_place v) (head_size v));
}

-- whether the root node is on a page and of a level that a file may have
abbrev pub is_root : ℕ → Option Link → Bool
is_root count None = count == 0
is_root count (Some l) = not (count == 0) && (not (l.page == 0) && nat_le l.entry.level level_limit)

abbrev pub is_head : (pages : ℕ) → Head → Bool
is_head pages h = nat_le h.count count_limit && (h.pages == pages && is_root h.count h.root)

abbrev pub is_sealed : ℕ → List ℕ → Bool
is_sealed size page = bytes_eq (drop (seal_place size) page) seal

-- page 0 of a file of so many pages
abbrev pub head_in : Layout → ℕ → List ℕ → Result Head MapRule
head_in layout pages page =
    if not (is_sealed layout.size page) then Err Unsealed
    else if is_head pages (fields_in layout.version page)
    && bytes_eq (head_page layout (fields_in layout.version page)) page
    then Ok (fields_in layout.version page)
    else Err Header

-- ---- the form of pages of a layout

abbrev pub form_of : Layout → Form
form_of layout = record {
  version = layout.version;
  size = layout.size;
  head_page = head_page layout;
  node_page = node_page layout;
  free_page = free_page layout.size;
  head_in = head_in layout;
  node_in = node_in layout;
  free_in = free_in layout.size;
}

abbrev pub first_form : Form
first_form = form_of first_layout

abbrev pub second_form : Form
second_form = form_of second_layout

abbrev pub form_by : Version → Form
form_by v = form_of (layout_by v)

-- the page spells this node, which is of this level
pub record SpellsNode (form : Form) (at : ℕ) (page : List ℕ) (n : Node) : Type 0 where
  pub fits : IsNode form.version n
  pub level : level_of n ≡ at
  pub is : page ≡ form.node_page n

-- page 0 of a file of so many pages spells this head
pub record SpellsHead (form : Form) (pages : ℕ) (page : List ℕ) (h : Head) : Type 0 where
  pub fits : FitsMapHead form.version pages h
  pub is : page ≡ form.head_page h
