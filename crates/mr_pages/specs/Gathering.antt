-- What is made of the nodes of a file, of each one behind those below it.
use Rattle.std.specs.Prelude.{◌≡◌, ℕ, ◌≤◌, Bool, true, List, [], ◌∷◌, Option, Some, None}
use Rattle.mr_tree.specs.Digest.{Scheme, entry}
use Rattle.mr_tree.specs.View as view
use Rattle.mr_tree.specs.Nodes.{subtrees}
use Rattle.mr_tree.specs.Snapshot.{AreLinked, IsPlaced}
use Rattle.mr_tree.specs.declared.child.Child.{Child}
use Rattle.mr_tree.specs.declared.stored.Stored.{Stored}
use Rattle.mr_tree.specs.declared.tree.Tree.{Tree}
use Rattle.mr_tree.specs.declared.tree.Tree.TheVariants as tree
use Rattle.mr_pages.specs.declared.node.Node as owned_type
use Rattle.mr_pages.specs.declared.node.Node.TheVariants as owned_node
use Rattle.mr_pages.specs.File.{File}
use Rattle.mr_pages.specs.Faults.{size, least_fill}
use Rattle.mr_pages.specs.Stands.{tree_of}
use Rattle.mr_pages.specs.Walking.{child_link, page_node, owned}
use Rattle.mr_pages.specs.private.Spelled.{place}

-- ---- one node

-- a node that breaks no rule by itself: what is said of it is its entry, and it is full, as a root
-- or below it
pub record SuitsEntry (x : Scheme) (root : Bool) (c : Child) (n : view.Node) : Type 0 where
  pub fits : view.IsView n
  pub some : 1 ≤ view.size n
  pub told : view.AreTold x.version n
  pub known : view.child_entry c ≡ view.entry_over x n
  pub full : least_fill root (page_node n) ≤ size (page_node n)

-- the count that is said of a root is the head's, and is compared behind a walk
abbrev pub IsCounted : (root : Bool) → Child → (count : ℕ) → Type 0
IsCounted root c count = root ≡ true → c.count ≡ count

-- the node breaks no rule by itself, where a root has the count that is said of it
abbrev pub SuitsChild : Scheme → (root : Bool) → Child → owned_type.Node → Type 0
SuitsChild x root c n = IsCounted root c (view.count_over x.version (owned n)) →
    SuitsEntry x root c (owned n)

-- the same entry, by which the node is found in another place
abbrev pub moved : (id : ℕ) → Child → Child
moved id c = record {
  id = id;
  level = c.level;
  rect = c.rect;
  mask = c.mask;
  count = c.count;
  digest = c.digest;
}

-- the tree with this node on top, over those of its children
abbrev pub tree_over : owned_type.Node → List Tree → Tree
tree_over (owned_node.Leaf records) ts = tree.Leaf records.items
tree_over (owned_node.Inner children) ts = tree.Inner ts

-- ---- what is made, from what was held before to what is held now

-- something was made of each child, one after another, for these trees
abbrev pub AreMade : {S M : Type 0} → (S → S → Child → M → Tree → Type 0) → S → S → List Child →
    List M → List Tree → Type 0
AreMade makes s u [] [] [] = u ≡ s
AreMade makes s u (c ∷ cs) (m ∷ ms) (t ∷ ts) =
    (v : _) × makes s v c m t × AreMade makes v u cs ms ts
AreMade makes s u _ _ _ = ⊥

-- something was made of the root's node, for the tree that the pages below it spell, or nothing
-- where there is no root
abbrev pub MakesTree : {S M : Type 0} → (S → S → Child → M → Tree → Type 0) → S → S →
    Option Child → Option M → File → Type 0
MakesTree makes s u None None f = u ≡ s
MakesTree makes s u (Some c) (Some m) f =
    makes s u c m (tree_of (place f.node c.level (child_link c)))
MakesTree makes s u _ _ f = ⊥

-- the tree that was made, or that of a map without a node
abbrev pub tree_in : Option Tree → Tree
tree_in None = tree.Empty
tree_in (Some t) = t

-- what comes of adding nodes one after another, where this comes of adding one
unfoldable pub GathersAll : {S : Type 0} → (S → S → Child → Tree → Type 0) → S → S → List Child
    → List Tree → Type 0
GathersAll gathers s u [] [] = u ≡ s
GathersAll gathers s u (c ∷ cs) (t ∷ ts) =
    (m : _) × gathers s m c t × GathersAll gathers m u cs ts
GathersAll gathers s u [] (t ∷ ts) = ⊥
GathersAll gathers s u (c ∷ cs) [] = ⊥

-- ---- a list of nodes

-- The nodes of the tree were put behind the others, and are found by an entry that says the same,
-- where a root has the count that is said of it.
pub record CopiesNodes (x : Scheme) (root : Bool) (old new : List Stored) (c m : Child) (t : Tree)
    : Type 0 where
  pub same : view.child_entry m ≡ view.child_entry c
  pub placed : IsCounted root c (entry x t).count → AreLinked x old →
      IsPlaced x old new m t (subtrees t)
