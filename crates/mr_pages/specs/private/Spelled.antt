-- The tree that the pages below a link spell, where they spell one.
use Rattle.std.specs.Prelude.{ℕ, zero, suc, List, [], ◌∷◌, Option, Some, None}
use Rattle.mr_pages.specs.Page.{Link, Node}
use Rattle.mr_pages.specs.Stands.{Placed, Leaf, Inner, Row, no_more, first}
use Rattle.mr_pages.specs.Faults.{found, children, records_in}

abbrev pub row : (Link → Placed) → List Link → Row
row place [] = no_more
row place (l ∷ ls) = first (place l) (row place ls)

-- below a link of level n
abbrev pub place : (ℕ → Option Node) → ℕ → Link → Placed
place at zero link = Leaf link.page (records_in (found at link))
place at (suc n) link = Inner link.page (row (place at n) (children (found at link)))

-- below the root, where there is one
abbrev pub placed_at : (ℕ → Option Node) → Option Link → Option Placed
placed_at at None = None
placed_at at (Some link) = Some (place at link.entry.level link)
