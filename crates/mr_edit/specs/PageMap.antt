-- The pages of a file under edit, and who owns them.
use Rattle.std.specs.Prelude.{◌≡◌, ℕ, suc, ◌<◌, ◌≤◌, ◌==◌, if◌then◌else◌, List, [], ◌∷◌, Option, Some, None}
use Rattle.mr_pages.specs.Page.{Node}

-- what a page is read as: a node, a free page that names the next one, or neither
pub record PageContent : Type 0 where
  pub node : Option Node
  pub free : Option ℕ

abbrev pub node_content : Node → PageContent
node_content n = record { node = Some n; free = None }

abbrev pub free_content : ℕ → PageContent
free_content next = record { node = None; free = Some next }

-- how many pages there are, page 0 included, and what each is read as
pub record PageMap : Type 0 where
  pub size : ℕ
  pub content : ℕ → PageContent

-- the map of pages with this content on a page
abbrev pub with_content : ℕ → PageContent → PageMap → PageMap
with_content p s b = record { size = b.size; content = λ q. if q == p then s else b.content q }

-- the map of pages with one page more
abbrev pub longer : PageMap → PageMap
longer b = record { size = suc b.size; content = b.content }

abbrev pub HasNode : PageMap → ℕ → Node → Type 0
HasNode b p n = (b.content p).node ≡ Some n

-- page 0 is no free page, whatever it is read as
abbrev pub HasFree : PageMap → ℕ → ℕ → Type 0
HasFree b p next = (0 < p) × ((b.content p).free ≡ Some next)

-- how often a number stands in a list
abbrev pub count_in : ℕ → List ℕ → ℕ
count_in q [] = 0
count_in q (x ∷ xs) = if x == q then suc (count_in q xs) else count_in q xs

-- each page has one owner
pub record OwnsEachOnce (size : ℕ) (owned : List ℕ) : Type 0 where
  pub each : (q : ℕ) → q < size → count_in q owned ≡ 1
  pub none : (q : ℕ) → size ≤ q → count_in q owned ≡ 0

-- these pages are the same in both
abbrev pub Agree : PageMap → PageMap → List ℕ → Type 0
Agree a b pages = (q : ℕ) → 0 < count_in q pages → b.content q ≡ a.content q
