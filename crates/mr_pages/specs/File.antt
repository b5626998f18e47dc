-- A map file page by page.
use Rattle.std.specs.Prelude.{◌≡◌, ℕ, ◌<◌, ◌*◌, ◌/◌, ◌%◌, ◌==◌, ◌||◌, not, nat_lt, Bool, List, length, slice_index_or, take, drop, Option, Some, Result, Ok, Err, if◌then◌else◌}
use Rattle.mr_record.specs.declared.version.Version.{Version}
use Rattle.mr_record.specs.declared.version.Version.TheVariants.{One, Two}
use Rattle.mr_pages.specs.declared.rule.MapRule.{MapRule}
use Rattle.mr_pages.specs.declared.rule.MapRule.TheVariants as rule
use Rattle.mr_pages.specs.Page.{Node, Head, IsNode, IsHead, Form, page_limit}
use Rattle.mr_pages.specs.PageBytes.{form_by}

-- its version, its number of pages, page 0 or the first rule that it breaks, and each other page
-- read as a node and as a free page, which names the next one
pub record File : Type 0 where
  pub version : Version
  pub pages : ℕ
  pub head : Result Head MapRule
  pub node : ℕ → Option Node
  pub free : ℕ → Option ℕ

-- what is known of the pages, whatever their bytes
pub record IsFile (file : File) : Type 0 where
  pub some : (h : Head) → file.head ≡ Ok h → 0 < file.pages
  pub head_fits : (h : Head) → file.head ≡ Ok h → IsHead file.version h
  pub nodes_fit : (p : ℕ) (n : Node) → file.node p ≡ Some n → IsNode file.version n

-- the bytes of one page
abbrev pub page_at : Form → List ℕ → ℕ → List ℕ
page_at form bytes page = take form.size (drop (page * form.size) bytes)

-- whether so many bytes are no file of pages of this size
abbrev pub is_odd_size : ℕ → ℕ → Bool
is_odd_size size n = n == 0 || (not (n % size == 0) || nat_lt (page_limit * size) n)

-- which version a file of these bytes is read in: the second exactly where byte 4 is 2
abbrev pub version_of : List ℕ → Version
version_of bytes = if slice_index_or bytes 4 0 == 2 then Two else One

-- how its pages are spelled
abbrev pub form_at : List ℕ → Form
form_at bytes = form_by (version_of bytes)

-- so many pages, each read by itself
abbrev pub pages_of : Form → ℕ → List ℕ → File
pages_of form pages bytes = record {
  version = form.version;
  pages = pages;
  head = form.head_in pages (page_at form bytes 0);
  node = λ page. form.node_in (page_at form bytes page);
  free = λ page. form.free_in (page_at form bytes page);
}

-- the bytes of a file, read page by page
abbrev pub file_of : Form → List ℕ → File
file_of form bytes = record (pages_of form (length bytes / form.size) bytes) {
  head = if is_odd_size form.size (length bytes)
      then Err rule.Size
      else form.head_in (length bytes / form.size) (page_at form bytes 0);
}
