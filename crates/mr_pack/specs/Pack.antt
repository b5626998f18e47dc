-- The tree that bulk load makes: leaves from all records, and then level upon level, until one node
-- is left.
use Rattle.std.specs.Prelude.{ℕ, zero, suc, ◌+◌, List, [], ◌∷◌, length, map, Some}
use Rattle.mr_record.specs.declared.record.Record.{Record}
use Rattle.mr_tree.specs.Limits.{leaf_limit, inner_limit}
use Rattle.mr_tree.specs.Tree.{rect}
use Rattle.mr_tree.specs.declared.tree.Tree.{Tree}
use Rattle.mr_tree.specs.declared.tree.Tree.TheVariants as tree
use Rattle.mr_pack.specs.Entries.{placed_item, grouped}
use Rattle.mr_pack.specs.declared.placed.Placed.{Placed}

-- the number of a record decides between equal middles
abbrev pub placed_record : Record → Placed Record
placed_record r = placed_item (Some r.rect) r.number r

-- the position of a node in its level decides between equal middles; the first of these stands at
-- position i
abbrev pub placed_nodes : (i : ℕ) → List Tree → List (Placed Tree)
placed_nodes i [] = []
placed_nodes i (t ∷ ts) = placed_item (rect t) i t ∷ placed_nodes (i + 1) ts

-- the lowest level
unfoldable pub leaves_of : List Record → List Tree
leaves_of records = map (λ rs. tree.Leaf rs) (grouped leaf_limit (map placed_record records))

-- the level above some nodes
unfoldable pub level_above : List Tree → List Tree
level_above ts = map (λ children. tree.Inner children) (grouped inner_limit (placed_nodes 0 ts))

-- the root above some nodes, at most so many levels up, of which there are always enough: each
-- level has fewer nodes than the one below
unfoldable pub root_above : (levels : ℕ) → List Tree → Tree
root_above levels [] = tree.Empty
root_above levels (t ∷ []) = t
root_above zero (t ∷ u ∷ ts) = tree.Empty
root_above (suc levels) (t ∷ u ∷ ts) = root_above levels (level_above (t ∷ u ∷ ts))

-- the tree of some records
unfoldable pub pack : List Record → Tree
pack records = root_above (length (leaves_of records)) (leaves_of records)
