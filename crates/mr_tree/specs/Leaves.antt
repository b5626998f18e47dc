-- The leaves of a tree and what is said of them, left to right.
use Rattle.std.specs.Prelude.{List, [], ◌∷◌, map}
use Rattle.std.specs.List.{flat_map}
use Rattle.mr_record.specs.declared.record.Record.{Record}
use Rattle.mr_tree.specs.Digest.{Scheme, entry_step}
use Rattle.mr_tree.specs.declared.entry.Entry.{Entry}
use Rattle.mr_tree.specs.declared.tree.Tree.{Tree}
use Rattle.mr_tree.specs.declared.tree.Tree.TheOpen.{Tree-F, Empty, Leaf, Inner}
use Rattle.mr_tree.specs.declared.tree.Tree.TheFolds.{fold-Tree}

abbrev pub leaves_step : Tree-F (List (List Record)) → List (List Record)
leaves_step Empty = []
leaves_step (Leaf records) = records ∷ []
leaves_step (Inner lists) = flat_map (λ list. list) lists

-- the records of each leaf
abbrev pub leaves : Tree → List (List Record)
leaves = fold-Tree (List (List Record)) leaves_step

-- what is said of a leaf with these records
abbrev pub leaf_entry : Scheme → List Record → Entry
leaf_entry s records = entry_step s (Leaf records)

-- what is said of each leaf
abbrev pub leaf_entries : Scheme → Tree → List Entry
leaf_entries s t = map (leaf_entry s) (leaves t)
