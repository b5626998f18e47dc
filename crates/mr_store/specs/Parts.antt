-- The nodes of a tree on pages, and what a map on pages stands for.
use Rattle.std.specs.Prelude.{ℕ, List, [], ◌∷◌, ◌++◌, Option, Some, None, option_map, nat_eq}
use Rattle.std.specs.Map.{lookup}
use Rattle.mr_record.specs.declared.version.Version.{Version}
use Rattle.mr_tree.specs.Nodes.{MapModel}
use Rattle.mr_tree.specs.declared.tree.Tree.{Tree}
use Rattle.mr_pages.specs.Stands.{Placed, Row, Leaf, Inner, no_more, first, tree_of, whole_tree}

abbrev mutual
  -- each node with its page and what stands below it, children before their parent
  pub parts : Placed → List (ℕ × Placed)
  parts (Leaf p rs) = (p, Leaf p rs) ∷ []
  parts (Inner p Ps) = all_parts Ps ++ (p, Inner p Ps) ∷ []

  pub all_parts : Row → List (ℕ × Placed)
  all_parts no_more = []
  all_parts (first P Ps) = parts P ++ all_parts Ps

abbrev pub whole_parts : Option Placed → List (ℕ × Placed)
whole_parts None = []
whole_parts (Some P) = parts P

-- the tree below the node on this page, where one of these nodes stands on it
abbrev pub tree_on : List (ℕ × Placed) → ℕ → Option Tree
tree_on ps page = option_map tree_of (lookup (nat_eq page) ps)

-- what a map of so many pages stands for, whose tree stands on these
abbrev pub placed_model : Version → (batch span : ℕ) → Option Placed → MapModel
placed_model v batch span po = record {
  version = v;
  batch = batch;
  span = span;
  tree = Some (whole_tree po);
  node = tree_on (whole_parts po);
}

-- the same of a map that is not told
abbrev pub untold : Version → (batch span : ℕ) → MapModel
untold v batch span = record {
  version = v;
  batch = batch;
  span = span;
  tree = None;
  node =
      λ page. None;
}
