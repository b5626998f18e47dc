-- What the entries of nodes stand for.
use Rattle.std.specs.Prelude.{◌≡◌, ℕ, ◌≤◌, List, ◌∷◌, map, sum}
use Rattle.std.specs.List.{flat_map, AllZip}
use Rattle.std.specs.Option.{option_to_list}
use Rattle.mr_record.specs.declared.version.Version.{Version}
use Rattle.mr_tree.specs.Digest.{Scheme}
use Rattle.mr_tree.specs.Limits.{count_limit}
use Rattle.mr_tree.specs.View as view
use Rattle.mr_tree.specs.declared.child.Child.{Child}
use Rattle.mr_tree.specs.declared.tree.Tree.{Tree}
use Rattle.mr_pages.specs.Stands.{Placed, tree_of, pages_of, link_of, IsWritten}
use Rattle.mr_pages.specs.Page.{node_entry}
use Rattle.mr_pages.specs.Walking.{child_link, page_node}
use Rattle.mr_edit.specs.PageMap.{PageMap, HasNode}
use Rattle.mr_edit.specs.declared.inserted.Inserted.{Inserted}

-- the entry is that of this tree, whose nodes stand on their pages
pub record NamesTree (scheme : Scheme) (b : PageMap) (c : Child) (P : Placed) : Type 0 where
  pub said : child_link c ≡ link_of scheme P
  pub written : IsWritten scheme (HasNode b) P

-- its version may tell what is told of the node
abbrev pub IsTold : Version → Child → Type 0
IsTold v c = view.MayTell v c.mask c.count

-- how many records entries count together, and that they are no more than a map has
abbrev pub counted : List Child → ℕ
counted cs = sum (map (λ (c : Child). c.count) cs)

abbrev pub HaveFew : List Child → Type 0
HaveFew cs = counted cs ≤ count_limit

-- the entry is that of the node that a view shows
abbrev pub IsEntryOf : Scheme → Child → view.Node → Type 0
IsEntryOf scheme c n =
    child_link c ≡ record { page = c.id; entry = node_entry scheme (page_node n) }

-- each entry is that of its tree
abbrev pub NameTrees : Scheme → PageMap → List Child → List Placed → Type 0
NameTrees scheme b cs Ps = AllZip (NamesTree scheme b) cs Ps

-- the trees alone, and all their pages
abbrev pub trees : List Placed → List Tree
trees Ps = map tree_of Ps

abbrev pub pages : List Placed → List ℕ
pages Ps = flat_map pages_of Ps

-- the entries in a subtree's place
abbrev pub entries : Inserted → List Child
entries s = s.first ∷ option_to_list s.second
